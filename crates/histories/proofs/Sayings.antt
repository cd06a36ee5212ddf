-- What a call said is what the rules have it say.
use Rattle.std.proofs.Common.{◌≡◌, ℕ, ◌≤◌, ltb, List, ◌∷◌, ◌++◌, length, take, drop, IfOk, IsOkAnd, MatchResult, Some, None, Ok, Err, Option, Result, sym, ap, ◌∙◌, append_assoc}
use Rattle.std.proofs.lemmas.List.{take_at}
use Rattle.std.proofs.lemmas.Bool.{ltb-false}
use Rattle.words.specs.declared.refusal.Refusal.{Refusal}
use Rattle.words.specs.Refusals.{Says, first_of, list_refusal}
use Rattle.formats.specs.Formats.{Listed}
use Rattle.words.proofs.Chain.{all_pass, not-refused}
use Rattle.histories.specs.declared.reply.Reply.{Reply}
use Rattle.histories.specs.declared.reply.Reply.TheVariants.{Words}
use Rattle.histories.specs.Sayings.{Saying, unless_due, said, wrote}

-- a result as it is told: with the reply that its value gives, or the refusal of its fault
abbrev pub Tells : {T F : Type 0} → (F → Refusal) → (T → Reply ℕ) → Result T F → Result (Reply ℕ) Refusal → Type 0
Tells told gives r s = MatchResult r (λ x. IsOkAnd s (λ y. y ≡ gives x)) (λ f. s ≡ Err (told f))

due_is : (due o : Option Refusal) (s : Saying) → due ≡ o → unless_due o s ≡ unless_due due s
due_is due o s e = ap (λ (p : Option Refusal). unless_due p s) (sym e)

-- a result that says which refusal is due is told as what is due, or as what it gives
pub told_said : {T F : Type 0} (told : F → Refusal) (gives : T → Reply ℕ) (due : Option Refusal) (g : Saying) (words : ℕ → List ℕ)
    (r : Result T F) (s : Result (Reply ℕ) Refusal)
    → Tells told gives r s → Says told r due → (due ≡ None → IfOk r (λ x. said words (Ok (gives x)) ≡ g))
    → said words s ≡ unless_due due g
told_said told gives due g words (Ok x) (Ok y) tells says gave =
    ap (λ (z : Reply ℕ). said words (Ok z)) tells ∙ gave says ∙ due_is due None g says
told_said told gives due g words (Ok x) (Err f) tells says gave = absurd tells
told_said told gives due g words (Err f) s tells says gave = ap (said words) tells ∙ due_is due (Some (told f)) g says

pub any_ok : {T F : Type 0} (r : Result T F) (P : T → Type 0) → ((x : T) → P x) → IfOk r P
any_ok (Ok x) P all = all x
any_ok (Err f) P all = tt

-- words that were written from the start of a list, more of which may lie behind
pub words_given : {F : Type 0} (r : Result ℕ F) (ws old new more list : List ℕ) → list ≡ new ++ more → Listed ws old new r
    → IfOk r (λ n. said (λ k. take k list) (Ok (Words n)) ≡ wrote ws)
words_given (Ok n) ws old new more list whole (count, new-is) =
    ap (λ (xs : List ℕ). wrote xs)
    (ap (take n) (whole ∙ ap (λ (xs : List ℕ). xs ++ more) new-is ∙ append_assoc ws (drop (length ws) old) more) ∙ take_at ws (drop (length ws) old ++ more) n (sym count))
words_given (Err f) ws old new more list whole listed = tt

-- a code table that is not refused has a row for each place
pub table_long : (table wide : ℕ) (later : List (Option Refusal)) → first_of (list_refusal table wide ∷ later) ≡ None → wide ≤ table
table_long table wide later passed = ltb-false table wide (not-refused (ltb table wide) _ (all_pass (list_refusal table wide) later passed).0)
