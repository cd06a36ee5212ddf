-- With lists of full length, a call is refused for what the rules say of its subject alone.
use Rattle.std.proofs.Common.{◌≡◌, ℕ, ◌+◌, ◌^◌, ◌<◌, ◌≤◌, true, not, List, [], ◌∷◌, map, length, None, sym, refl, ap, ◌∙◌, arith}
use Rattle.std.proofs.lemmas.List.{length-map, append-nil, drop_all}
use Rattle.std.proofs.lemmas.Bool.{le-ltb, not_from_true}
use Rattle.words.specs.declared.refusal.Part.TheVariants as part
use Rattle.words.specs.declared.word.WordKind.TheVariants.{Name, AnswerHead}
use Rattle.words.specs.Words.{word_of, low_bits, is_kind}
use Rattle.words.specs.Refusals.{refusal, first_of, refuse_if, list_refusal}
use Rattle.descent.specs.Lines.{stands}
use Rattle.descent.specs.Order.{rising_from}
use Rattle.descent.specs.Proper.{below}
use Rattle.descent.specs.Rings.{ringed}
use Rattle.questions.specs.Questions.{count_refusal, question_refusal}
use Rattle.formats.specs.Formats.{answer_of, answer_refusal, names_refusal, nothing_due, not_answer}
use Rattle.catalogue.specs.Ledger.{Ledger, refused, ask, fit, close, recall, kind_refusal}
use Rattle.words.proofs.Chain.{passes, each_passes, last_check, unrefused}
use Rattle.words.proofs.Parts.{low_of, kind_passes}
use Rattle.formats.proofs.ImageLaws.{names_pass}

-- a list of full length is not refused
long_enough : (n needed : ℕ) → needed ≤ n → list_refusal n needed ≡ None
long_enough n needed l = unrefused _ (refusal 1 0 part.Lists) (le-ltb n needed l)

module _ (l : Ledger) where
  closed_passes : l.closed ≡ true → refuse_if (not l.closed) (refusal 12 0 part.Question) ≡ None
  closed_passes shut = unrefused (not l.closed) (refusal 12 0 part.Question) (not_from_true l.closed shut)

  pub ask_due : (words : List ℕ) (table working answer : ℕ) → (l.wide ≤ table) × (32 ≤ working) × (l.wide + 1 ≤ answer) → l.closed ≡ true
      → refused l (ask words table working answer) ≡ first_of (count_refusal words ∷ question_refusal (λ k. stands k l.kinds) words ∷ [])
  ask_due words table working answer (a, c, b) shut =
      passes (list_refusal table l.wide) _ _ (long_enough table l.wide a)
      (passes (list_refusal answer (l.wide + 1)) _ _ (long_enough answer (l.wide + 1) b)
      (passes (list_refusal working 32) _ _ (long_enough working 32 c)
      (passes (refuse_if (not l.closed) (refusal 12 0 part.Question)) _ _ (closed_passes shut) refl)))

  pub fit_due : (serial : ℕ) (words : List ℕ) (table working : ℕ) → (l.wide ≤ table) × (32 ≤ working) → l.closed ≡ true
      → refused l (fit serial words table working) ≡ first_of (count_refusal words ∷ kind_refusal l serial ∷ question_refusal (λ k. stands k l.kinds) words ∷ [])
  fit_due serial words table working (a, c) shut =
      passes (list_refusal table l.wide) _ _ (long_enough table l.wide a)
      (passes (list_refusal working 32) _ _ (long_enough working 32 c)
      (passes (refuse_if (not l.closed) (refusal 12 0 part.Question)) _ _ (closed_passes shut) refl))

  -- what was not refused had a question that was not
  pub ask_passed : (words : List ℕ) (table working answer : ℕ) → refused l (ask words table working answer) ≡ None → question_refusal (λ k. stands k l.kinds) words ≡ None
  ask_passed words table working answer none =
      (each_passes (list_refusal table l.wide ∷ list_refusal answer (l.wide + 1) ∷ list_refusal working 32
      ∷ refuse_if (not l.closed) (refusal 12 0 part.Question) ∷ count_refusal words ∷ question_refusal (λ k. stands k l.kinds) words ∷ []) none).1.1.1.1.1.0

  pub fit_passed : (serial : ℕ) (words : List ℕ) (table working : ℕ) → refused l (fit serial words table working) ≡ None → question_refusal (λ k. stands k l.kinds) words ≡ None
  fit_passed serial words table working none =
      (each_passes (list_refusal table l.wide ∷ list_refusal working 32 ∷ refuse_if (not l.closed) (refusal 12 0 part.Question)
      ∷ count_refusal words ∷ kind_refusal l serial ∷ question_refusal (λ k. stands k l.kinds) words ∷ []) none).1.1.1.1.1.0

  pub close_due : (table marks walk ring : ℕ) → (l.wide ≤ table) × (l.wide ≤ marks) × (l.wide ≤ walk) × (l.wide + 1 ≤ ring)
      → refused l (close table marks walk ring) ≡ refuse_if (ringed l.lines) (refusal 11 0 part.Closing)
  close_due table marks walk ring (a, b, c, d) =
      passes (list_refusal table l.wide) _ _ (long_enough table l.wide a)
      (passes (list_refusal marks l.wide) _ _ (long_enough marks l.wide b)
      (passes (list_refusal walk l.wide) _ _ (long_enough walk l.wide c)
      (passes (list_refusal ring (l.wide + 1)) _ _ (long_enough ring (l.wide + 1) d)
      (last_check (refuse_if (ringed l.lines) (refusal 11 0 part.Closing)) _ refl))))

  pub recall_due : (words : List ℕ) (room : ℕ) → l.wide + 1 ≤ room → refused l (recall words room) ≡ answer_refusal words
  recall_due words room full = passes (list_refusal room (l.wide + 1)) _ _ (long_enough room (l.wide + 1) full) (last_check (answer_refusal words) _ refl)

-- the answer that names rising kinds is an answer
pub answer_accepted : (ks : List ℕ) → rising_from 0 ks ≡ true → below (2 ^ 28) ks ≡ true → length ks < 2 ^ 28 → answer_refusal (answer_of ks) ≡ None
answer_accepted ks rising serials few =
    let h : ℕ = word_of AnswerHead (length ks) in
    let names = map (word_of Name) ks in
    let low : low_bits h ≡ length ks = low_of AnswerHead (length ks) few in
    passes (refuse_if (not (is_kind AnswerHead h)) (not_answer 0)) _ None (kind_passes AnswerHead (length ks) (not_answer 0) few)
    (passes (names_refusal not_answer (low_bits h) 0 1 names) _ None
    (ap (λ (n : ℕ). names_refusal not_answer n 0 1 names) low ∙ ap (names_refusal not_answer (length ks) 0 1) (sym (append-nil names)) ∙ names_pass not_answer ks 0 1 [] rising serials)
    (last_check (nothing_due not_answer (low_bits h + 1) _) None (ap (nothing_due not_answer (low_bits h + 1)) (drop_all (low_bits h) names (omega (arith, length-map ks (word_of Name)))))))
