-- Calls that said what the rules have them say make the promise.
use Rattle.std.proofs.Common.{◌≡◌, ℕ, suc, ◌^◌, Bool, true, false, not, ltb, ◌⊎◌, ◌↔◌, List, [], ◌∷◌, ◌++◌, length, get_or, Some, None, filter, Option, sym, refl, ap, ◌∙◌, subst, ap₂, inl, inr, arith}
use Rattle.std.proofs.lemmas.List.Filters.{length-filter_both}
use Rattle.std.proofs.lemmas.Bool.{false≢true, and_parts, and_from}
use Rattle.std.proofs.lemmas.Bool.Decides.{nat_tests}
use Rattle.words.specs.declared.refusal.Refusal.{Refusal}
use Rattle.words.specs.declared.refusal.Part.TheVariants as part
use Rattle.words.specs.Refusals.{refusal, refuse_if}
use Rattle.descent.specs.declared.line.Line.{Line}
use Rattle.descent.specs.Lines.{stands}
use Rattle.descent.specs.Proper.{below}
use Rattle.descent.specs.Descent.{LeadsUp, descends}
use Rattle.descent.specs.Rings.{ringed}
use Rattle.descent.specs.Coverage.{uppermost}
use Rattle.descent.proofs.Rings.{ringed_decided}
use Rattle.descent.proofs.Coverage.{uppermost_decided}
use Rattle.descent.proofs.Rows.{kept_stands}
use Rattle.questions.specs.Questions.{question_refusal}
use Rattle.questions.proofs.Readings.{question_read}
use Rattle.formats.specs.Formats.{answer_of, answer_refusal}
use Rattle.catalogue.specs.Ledger.{Ledger, Call, blank, after, refused, ask, fit, set_of, answering, still_standing}
use Rattle.descent.specs.Proper.{CanHold}
use Rattle.descent.proofs.Rising.{rising_kept}
use Rattle.histories.specs.Calls.{ledger_after}
use Rattle.histories.specs.Sayings.{Saying, done, wrote, verdict, unless_due, saying}
use Rattle.promise.specs.Runs.{Followed}
use Rattle.promise.specs.Promise.{Run, Turn, Closing, Recalling, Gave, Judged, Alike, Refuses, answer_by_rules, fit_by_rules, InSet, NamesUppermost, Sound, Promised}
use Rattle.promise.proofs.Dues.{ask_passed, fit_passed, ask_due, fit_due, close_due, recall_due, answer_accepted}

-- at every call the ledger tells what stood, and the call said what the rules have it say
followed_at : (k : Ledger) (earlier later : List Call) (c : Call) (said : List Saying) → Followed k (earlier ++ c ∷ later) said
    → CanHold (ledger_after k earlier).wide (ledger_after k earlier).kinds (ledger_after k earlier).lines × (get_or said (length earlier) done ≡ saying (ledger_after k earlier) c)
followed_at k [] later c [] f = absurd f
followed_at k [] later c (s ∷ said) (held, says, rest) = (held, says)
followed_at k (d ∷ earlier) later c [] f = absurd f
followed_at k (d ∷ earlier) later c (s ∷ said) (held, says, rest) = followed_at (after k d) earlier later c said rest

followed_length : (k : Ledger) (calls : List Call) (said : List Saying) → Followed k calls said → length said ≡ length calls
followed_length k [] [] f = refl
followed_length k [] (s ∷ said) f = absurd f
followed_length k (c ∷ calls) [] f = absurd f
followed_length k (c ∷ calls) (s ∷ said) (held, says, rest) = ap suc (followed_length (after k c) calls said rest)

-- a closing is refused exactly where the test for rings is passed
refuses_ring : (b : Bool) (s : Saying) → s ≡ unless_due (refuse_if b (refusal 11 0 part.Closing)) done → Refuses s ↔ (b ≡ true)
refuses_ring true s e = (λ _. refl, λ _. (refusal 11 0 part.Closing, e))
refuses_ring false s e = (λ r. let n = r.1 in cc, λ t. absurd (false≢true t))

-- a call that gave words, or a verdict, was accepted
gave_words : (due : Option Refusal) (words ws : List ℕ) → wrote words ≡ unless_due due (wrote ws) → (due ≡ None) × (words ≡ ws)
gave_words None words ws e = (refl, cc)
gave_words (Some r) words ws e = (cc, cc)

gave_verdict : (due : Option Refusal) (a b : Bool) → verdict a ≡ unless_due due (verdict b) → (due ≡ None) × (a ≡ b)
gave_verdict None a b e = (refl, cc)
gave_verdict (Some r) a b e = (cc, cc)

below_kept : (w : ℕ) (test : ℕ → Bool) (xs : List ℕ) → below w xs ≡ true → below w (filter test xs) ≡ true
below_kept w test [] b = refl
below_kept w test (x ∷ xs) b = let p = and_parts (ltb x w) (below w xs) b in let later = below_kept w test xs p.1 in grind (arith, nat_tests)

-- a question that was not refused reads as the set that the rules give it
in_set_lem : (l : Ledger) (words : List ℕ) (k : ℕ) → question_refusal (λ m. stands m l.kinds) words ≡ None → InSet l words k (set_of l words k)
in_set_lem l words k passed = question_read (λ m. stands m l.kinds) (λ m. descends l.lines k m) (stands k l.kinds) words passed

names_uppermost : (l : Ledger) (words : List ℕ) → CanHold l.wide l.kinds l.lines → question_refusal (λ m. stands m l.kinds) words ≡ None
    → NamesUppermost l words (answer_of (answering l words))
names_uppermost l words held passed =
    record {
      set = set_of l words;
      reading = λ k. in_set_lem l words k passed;
      kinds = answering l words;
      written = refl;
      rising = rising_kept (uppermost l.kinds l.lines (set_of l words)) 0 l.kinds held.rising;
      uppermost = λ k.
          let test = uppermost l.kinds l.lines (set_of l words) in
          let right = uppermost_decided l.kinds l.lines (set_of l words) k in
          let kept = kept_stands test k l.kinds in
          (λ h. right.0 (and_parts (stands k l.kinds) (test k) (sym kept ∙ h)).1, λ u. kept ∙ and_from (stands k l.kinds) (test k) u.standing (right.1 u));
    }

module _ (run : Run) (f : Followed (blank run.width) run.calls run.said) where
  turn_said : (l : Ledger) (c : Call) (s : Saying) → Turn run l c s → CanHold l.wide l.kinds l.lines × (s ≡ saying l c)
  turn_said l c s t =
      let new = blank run.width in
      let at = followed_at new t.earlier t.later c run.said (subst (λ (cs : List Call). Followed new cs run.said) t.made f) in
      (subst (λ (k : Ledger). CanHold k.wide k.kinds k.lines) (sym t.stood) at.0, t.answered ∙ at.1 ∙ ap (λ (k : Ledger). saying k c) (sym t.stood))

  ring_refuses : (l : Ledger) (s : Saying) → Closing run l s → Refuses s ↔ (ringed l.lines ≡ true)
  ring_refuses l s c =
      refuses_ring (ringed l.lines) s
      ((turn_said l _ s c.turn).1 ∙ ap (λ (o : Option Refusal). unless_due o done) (close_due l c.table c.marks c.walk c.ring c.full))

  pub gave : (l : Ledger) (words answer : List ℕ) → Gave run l words answer → CanHold l.wide l.kinds l.lines × (question_refusal (λ k. stands k l.kinds) words ≡ None) × (answer ≡ answer_of (answering l words))
  gave l words answer g =
      let t = turn_said l _ (wrote answer) g.turn in
      let e = gave_words (refused l (ask words g.table g.working g.room)) answer (answer_of (answering l words)) t.1 in
      (t.0, ask_passed l words g.table g.working g.room e.0, e.1)

  judged : (l : Ledger) (serial : ℕ) (words : List ℕ) (is : Bool) → Judged run l serial words is → InSet l words serial is
  judged l serial words is j =
      let t = turn_said l _ (verdict is) j.turn in
      let e = gave_verdict (refused l (fit serial words j.table j.working)) is (set_of l words serial) t.1 in
      subst (InSet l words serial) (sym e.1) (in_set_lem l words serial (fit_passed l serial words j.table j.working e.0))

  pub recalls : (m : Ledger) (words : List ℕ) (s : Saying) → Recalling run m words s → s ≡ unless_due (answer_refusal words) (wrote (answer_of (still_standing m words)))
  recalls m words s r = (turn_said m _ s r.turn).1 ∙ ap (λ (o : Option Refusal). unless_due o (wrote (answer_of (still_standing m words)))) (recall_due m words r.answer r.full)

  pub sound : Sound run
  sound =
      record {
        answers = followed_length _ run.calls run.said f;
        closing = λ l s c.
            let e = ring_refuses l s c in
            let d = ringed_decided l.lines in
            (λ r. d.0 (e.0 r), λ k. e.1 (d.1 k));
        asking = λ l words s a shut.
            (turn_said l _ s a.turn).1 ∙ ap (λ (o : Option Refusal). unless_due o (wrote (answer_of (answering l words)))) (ask_due l words a.table a.working a.answer a.full shut);
        naming = λ l words answer g.
            let t = gave l words answer g in
            subst (NamesUppermost l words) (sym t.2) (names_uppermost l words t.0 t.1);
        judging = judged;
        fitting = λ l serial words s a shut.
            (turn_said l _ s a.turn).1 ∙ ap (λ (o : Option Refusal). unless_due o (verdict (set_of l words serial))) (fit_due l serial words a.table a.working a.full shut);
      }

same_answer : (l m : Ledger) (words : List ℕ) → Alike l m → answer_by_rules l words ≡ answer_by_rules m words
same_answer l m words a =
    ap₂ (λ (ks : List ℕ) (ls : List Line). answer_by_rules (record { wide = 0; kinds = ks; lines = ls; closed = true }) words) a.kinds a.lines

same_fit : (l m : Ledger) (serial : ℕ) (words : List ℕ) → Alike l m → fit_by_rules l serial words ≡ fit_by_rules m serial words
same_fit l m serial words a =
    ap₂ (λ (ks : List ℕ) (ls : List Line). fit_by_rules (record { wide = 0; kinds = ks; lines = ls; closed = true }) serial words) a.kinds a.lines

-- an answer that was given is an answer, wherever it is recalled
given-accepted : (l : Ledger) (words answer : List ℕ) → CanHold l.wide l.kinds l.lines → answer ≡ answer_of (answering l words) → answer_refusal answer ≡ None
given-accepted l words answer held e =
    let test = uppermost l.kinds l.lines (set_of l words) in
    ap answer_refusal e
    ∙ answer_accepted (answering l words) (rising_kept test 0 l.kinds held.rising) (below_kept (2 ^ 28) test l.kinds held.serials) (omega (arith, length-filter_both test (λ x. not (test x)) (λ _. refl) l.kinds, held.places, held.wide))

module _ (east west : Run) (e : Followed (blank east.width) east.calls east.said) (w : Followed (blank west.width) west.calls west.said) where
  given_passes : (l : Ledger) (words answer : List ℕ) → Gave east l words answer ⊎ Gave west l words answer → answer_refusal answer ≡ None
  given_passes l words answer (inl g) = let t = gave east e l words answer g in given-accepted l words answer t.0 t.2
  given_passes l words answer (inr g) = let t = gave west w l words answer g in given-accepted l words answer t.0 t.2

  either_recalls : (m : Ledger) (answer : List ℕ) (s : Saying) → Recalling east m answer s ⊎ Recalling west m answer s → s ≡ unless_due (answer_refusal answer) (wrote (answer_of (still_standing m answer)))
  either_recalls m answer s (inl r) = recalls east e m answer s r
  either_recalls m answer s (inr r) = recalls west w m answer s r

  pub promised : Promised east west
  promised =
      let se = sound east e in
      let sw = sound west w in
      record {
        east_sound = se;
        west_sound = sw;
        closing = λ l m s t c d alike.
            let p = se.closing l s c in
            let q = sw.closing m t d in
            (λ r. q.1 (subst (λ (ls : List Line). (k : ℕ) × LeadsUp ls k k) alike.lines (p.0 r)), λ r. p.1 (subst (λ (ls : List Line). (k : ℕ) × LeadsUp ls k k) (sym alike.lines) (q.0 r)));
        asking = λ l m words s t a b alike shut shut'. se.asking l words s a shut ∙ same_answer l m words alike ∙ sym (sw.asking m words t b shut');
        fitting = λ l m serial words s t a b alike shut shut'. se.fitting l serial words s a shut ∙ same_fit l m serial words alike ∙ sym (sw.fitting m serial words t b shut');
        recalling = λ l m words answer s g r.
            either_recalls m answer s r ∙ ap (λ (o : Option Refusal). unless_due o (wrote (answer_of (still_standing m answer)))) (given_passes l words answer g);
      }
