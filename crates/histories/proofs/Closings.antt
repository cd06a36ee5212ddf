-- A closing that is handed the start of the code table keeps the table with its catalogue.
use Rattle.std.proofs.Common.{◌≡◌, ℕ, ◌<◌, ◌≤◌, true, List, ◌++◌, length, is_err, Some, None, Ok, Err, Option, Result, sym, refl, ap, ◌∙◌, subst, arith}
use native.Mathlib.Decide.{dec_le}
use Rattle.std.proofs.lemmas.Bool.{lt-ltb}
use Rattle.words.specs.declared.refusal.Refusal.{Refusal}
use Rattle.words.specs.declared.refusal.ClosingFault.{ClosingFault}
use Rattle.words.specs.declared.refusal.ClosingFault.TheVariants as fault
use Rattle.words.specs.declared.refusal.Part.TheVariants as part
use Rattle.words.specs.Refusals.{Says, refusal, list_refusal, closing_told}
use Rattle.words.proofs.Chain.{stops, refuses, says_same}
use Rattle.codes.specs.Sorts.{Sort}
use Rattle.descent.specs.declared.line.Line.{Line}
use Rattle.closing.specs.Closing.{Lent, lent, Closes}
use Rattle.catalogue.specs.declared.state.Catalogue.{Catalogue}
use Rattle.catalogue.specs.Ledger.{refused, close}
use Rattle.catalogue.specs.Table.{table_of, Belongs}
use Rattle.catalogue.specs.View.{View, view, Moved}
use Rattle.histories.proofs.Prefixes.{start_belongs, whole_belongs}

number_in : Option Refusal → ℕ
number_in None = 0
number_in (Some r) = r.number

-- a closing that is told of a short list leaves the lists as they were
short_keeps : {S R : Type 0} (sort : Sort S R) (w : ℕ) (ks ps : List ℕ) (ls : List Line) (old new : Lent R) (r : Result (Unit {0}) ClosingFault)
    → Says closing_told r (Some (refusal 1 0 part.Lists)) → Closes sort w ks ps ls old new r → (is_err r ≡ true) × (new ≡ old)
unfolding number_in
short_keeps sort w ks ps ls old new (Ok x) says left = (cc, cc)
short_keeps sort w ks ps ls old new (Err (fault.List f)) says left = (refl, left)
short_keeps sort w ks ps ls old new (Err fault.Ring) says left = let z : ◌≡◌ {A = ℕ} 1 11 = ap number_in says in absurd (omega arith)

module _
    {S R : Type 0} (sort : Sort S R) (old new : Catalogue) (rows rows' rest : List R) (marks marks' walk walk' ring ring' : List ℕ)
    (r : Result (Unit {0}) ClosingFault)
    (long : length rows' ≡ length rows)
    (moved : (view old).book.wide ≡ sort.width
    → Moved closing_told (close (length rows) (length marks) (length walk) (length ring)) (view old) (view new) r)
    (lists : Closes sort (view old).book.wide (view old).book.kinds (view old).places (view old).book.lines
    (lent rows marks walk ring) (lent rows' marks' walk' ring') r)
    (keeps : Belongs (view old) (table_of sort rows) → Belongs (view new) (table_of sort rows'))
  where
    -- with a row for each place
    long_enough : (view old).book.wide ≤ length rows → Belongs (view old) (table_of sort (rows ++ rest))
        → Belongs (view new) (table_of sort (rows' ++ rest))
    long_enough wide b =
        let b' = keeps (start_belongs old sort rows rest wide b) in
        let same : (view new).book.wide ≡ (view old).book.wide = b'.wide ∙ sym b.wide in
        whole_belongs new sort rows' rest (omega arith) b'

    -- with fewer, nothing changes
    too_short : length rows < (view old).book.wide → Belongs (view old) (table_of sort (rows ++ rest))
        → Belongs (view new) (table_of sort (rows' ++ rest))
    too_short short b =
        let w = (view old).book.wide in
        let mv = moved b.wide in
        let due : refused (view old).book (close (length rows) (length marks) (length walk) (length ring)) ≡ Some (refusal 1 0 part.Lists) =
        stops (list_refusal (length rows) w) _ (refusal 1 0 part.Lists) (refuses _ (refusal 1 0 part.Lists) (lt-ltb (length rows) w short)) in
        let kept = short_keeps sort w (view old).book.kinds (view old).places (view old).book.lines _ _ r (says_same closing_told r _ _ due mv.says) lists in
        subst (λ (xs : List R). Belongs (view new) (table_of sort (xs ++ rest))) (sym (ap (λ (l : Lent R). l.table) kept.1))
        (subst (λ (v : View). Belongs v (table_of sort (rows ++ rest))) (sym (mv.same kept.0)) b)

    pub closing_keeps : Belongs (view old) (table_of sort (rows ++ rest)) → Belongs (view new) (table_of sort (rows' ++ rest))
    closing_keeps b = elim (dec_le (view old).book.wide (length rows)) [ yes wide ↦ long_enough wide b | no off ↦ too_short (omega arith) b ]
