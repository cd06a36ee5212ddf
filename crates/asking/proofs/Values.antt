-- What a question means by places is what it means by lines.
use Rattle.std.proofs.Common.{◌≡◌, ℕ, ◌<◌, Bool, true, false, ◌&&◌, List, [], ◌∷◌, length, get_or, sym, refl, ap, ◌∙◌, ap₂, inl, inr, arith}
use mathlib.Core.Path.{fun_ext}
use Rattle.std.specs.List.{AllByRecursion as All}
use Rattle.std.proofs.lemmas.Bool.{both_ways, cases_Bool}
use Rattle.words.specs.declared.word.WordKind.{WordKind}
use Rattle.words.specs.Words.{kind_number, low_bits, rule_of}
use Rattle.descent.specs.declared.line.Line.{Line}
use Rattle.descent.specs.Lines.{stands}
use Rattle.descent.specs.Descent.{Descends, self, up, descends}
use Rattle.descent.specs.Closure.{Placed}
use Rattle.descent.proofs.Descent.{descends_decided}
use Rattle.descent.proofs.Lines.{stands_at, stands_position}
use Rattle.closing.specs.Tables.{Filled, cell}
use Rattle.questions.specs.Questions.{applied, holds, value_of}
use Rattle.catalogue.specs.View.{View}
use Rattle.catalogue.specs.Ledger.{set_of}
use Rattle.asking.specs.Naming.{seat, row_places}
use Rattle.asking.specs.Asking.{AsPlaces}
use Rattle.asking.proofs.Seats.{seat_at}

-- what descends from a kind that does not stand does not stand either
stands_above : {w : ℕ} {ks ps : List ℕ} {ls : List Line} → Placed w ks ps ls → {d k : ℕ} → Descends ls d k → stands d ks ≡ true → stands k ks ≡ true
stands_above placed self st = st
stands_above placed (up {k} {p} {m} h below) st = stands_above placed below (placed.between k p h).1

-- where no entry has a place, and neither all nor a name has it, no word gives it to one
none_applied : (kind : WordKind) (n : ℕ) (entries : List Bool) → All (λ b. b ≡ false) entries → All (λ b. b ≡ false) (applied (λ _. false) false kind n entries)
none_applied kind n entries h = grind arith

none_holds : (words : List ℕ) (entries : List Bool) → All (λ b. b ≡ false) entries → holds (λ _. false) false entries words ≡ false
none_holds [] [] h = refl
none_holds [] (b ∷ entries) h = h.0
none_holds (w ∷ words) entries h =
    none_holds words (applied (λ _. false) false (rule_of (kind_number w)).kind (low_bits w) entries)
    (none_applied (rule_of (kind_number w)).kind (low_bits w) entries h)

module _ (v : View) (rows : List (ℕ → Bool))
    (placed : Placed v.book.wide v.book.kinds v.places v.book.lines)
    (filled : Filled v.book.wide v.book.kinds v.places v.book.lines rows) where
  -- a kind's place is in a name's value exactly if the kind descends from the named one
  pub named_descends : (a : ℕ) → a < length v.book.kinds → (k : ℕ) →
      row_places v rows k (get_or v.places a 0) ≡ descends v.book.lines (get_or v.book.kinds a 0) k
  named_descends a h k =
      elim (cases_Bool (stands k v.book.kinds)) [
        | inl st ↦
            let q = stands_position k v.book.kinds st in
            let place = seat_at v.book.kinds v.places q.0 k placed.different placed.paired q.1 q.2 in
            ap₂ (λ b i. b && cell rows i (get_or v.places a 0)) st place
            ∙ filled.descent q.0 a q.1 h
            ∙ ap (descends v.book.lines (get_or v.book.kinds a 0)) q.2
        | inr out ↦
            ap (λ b. b && cell rows (seat v.book.kinds v.places k) (get_or v.places a 0)) out
            ∙ sym (elim (cases_Bool (descends v.book.lines (get_or v.book.kinds a 0) k)) [
              | inl d ↦
                  absurd (both_ways (stands k v.book.kinds) out
                  (stands_above placed ((descends_decided v.book.lines (get_or v.book.kinds a 0) k).0 d) (stands_at v.book.kinds a h)))
              | inr lacks ↦ lacks
            ])
      ]

  -- a place of no kind is in no name's value
  named_none : (p : ℕ) → p < v.book.wide → stands p v.places ≡ false → (k : ℕ) → row_places v rows k p ≡ false
  named_none p lt out k =
      elim (cases_Bool (stands k v.book.kinds)) [
        | inl st ↦
            let q = stands_position k v.book.kinds st in
            let place = seat_at v.book.kinds v.places q.0 k placed.different placed.paired q.1 q.2 in
            ap₂ (λ b i. b && cell rows i p) st place
            ∙ filled.only (get_or v.places q.0 0) p (placed.below q.0 q.1) lt (inr out)
        | inr gone ↦ ap (λ b. b && cell rows (seat v.book.kinds v.places k) p) gone
      ]

  -- what the words hold of a kind, by names that mean its descent
  pub holds_set : (words : List ℕ) (named : ℕ → Bool) (whole : Bool) (a : ℕ) → a < length v.book.kinds →
      ((k : ℕ) → named k ≡ descends v.book.lines (get_or v.book.kinds a 0) k) → whole ≡ true →
      holds named whole [] words ≡ set_of v.book words (get_or v.book.kinds a 0)
  holds_set words named whole a h names all =
      ap₂ (λ f b. holds f b [] words) (fun_ext names) (all ∙ sym (stands_at v.book.kinds a h))

  pub value_as_places : (words : List ℕ) (whole : ℕ → Bool) → ((p : ℕ) → p < v.book.wide → whole p ≡ stands p v.places) →
      AsPlaces v words (value_of (row_places v rows) whole words)
  value_as_places words whole all = record {
    kinds = λ a h.
        let here : a < length v.places = omega (arith, placed.paired) in
        holds_set words (λ k. row_places v rows k (get_or v.places a 0)) (whole (get_or v.places a 0)) a h (named_descends a h)
        (all (get_or v.places a 0) (placed.below a h) ∙ stands_at v.places a here);
    others = λ p lt out.
        ap₂ (λ f b. holds f b [] words) (fun_ext (named_none p lt out)) (all p lt ∙ out) ∙ none_holds words [] tt;
  }
