-- What an evaluated question leaves, where the table belongs to the catalogue.
use Rattle.std.proofs.Common.{◌≡◌, ℕ, ◌+◌, Bool, true, ◌&&◌, ltb, List, [], ◌∷◌, ◌++◌, map, length, get_or, drop, refl, ap, ◌∙◌, subst, ap₂, arith}
use Rattle.std.proofs.lemmas.List.{length-map, drop_at}
use Rattle.std.proofs.lemmas.Bool.{lt-ltb}
use Rattle.descent.specs.declared.kind.Kind.{Kind}
use Rattle.descent.specs.Lines.{serials_of, places_of, stands}
use Rattle.descent.specs.Closure.{Placed}
use Rattle.words.specs.declared.word.WordKind.TheVariants.{Name, AnswerHead}
use Rattle.words.specs.Words.{word_of}
use Rattle.codes.specs.Sorts.{Sort, Agree}
use Rattle.closing.specs.Tables.{Filled, sets_of}
use Rattle.descent.proofs.Lines.{stands_position}
use Rattle.questions.specs.Questions.{holds, value_of}
use Rattle.catalogue.specs.declared.state.Catalogue.{Catalogue}
use Rattle.formats.specs.Formats.{answer_of}
use Rattle.catalogue.specs.Ledger.{set_of, answering}
use Rattle.catalogue.specs.Table.{Belongs, table_of}
use Rattle.catalogue.specs.View.{view}
use Rattle.asking.specs.Asking.{AsPlaces}
use Rattle.asking.specs.Decoding.{decoded}
use Rattle.asking.specs.Naming.{seat, row_places, fits_name}
use Rattle.asking.proofs.Seats.{seat_at, view_placed}
use Rattle.asking.proofs.Uppermost.{decoded_names}
use Rattle.asking.proofs.Values.{named_descends, holds_set, value_as_places}

module _ {S R : Type 0} (s : Sort S R) (c : Catalogue) (table : List R) (belongs : Belongs (view c) (table_of s table)) (shut : (view c).book.closed ≡ true) where
  -- a row that is read as the question's value is read as its set
  pub asked_set : (words : List ℕ) (all row : R) → Agree s.width (s.reads all) (λ p. stands p (view c).places) →
      Agree s.width (s.reads row) (value_of (row_places (view c) (sets_of s table)) (s.reads all) words) → AsPlaces (view c) words (s.reads row)
  asked_set words all row whole value =
      let wide = belongs.wide in
      let placed = view_placed c in
      let right = value_as_places (view c) (sets_of s table) placed (belongs.closed shut).filled words (s.reads all) (λ p lt. whole p (omega arith)) in
      record {
        kinds = λ a h. let low = placed.below a h in value (get_or (view c).places a 0) (omega arith) ∙ right.kinds a h;
        others = λ p lt out. value p (omega arith) ∙ right.others p lt out;
      }

  -- and decodes to the names of the kinds that answer
  pub asked_names : (words : List ℕ) (kinds : List Kind) (row : R) → serials_of kinds ≡ (view c).book.kinds → places_of kinds ≡ (view c).places →
      AsPlaces (view c) words (s.reads row) → decoded s kinds table row ≡ map (word_of Name) (answering (view c).book words)
  asked_names words kinds row serials places set =
      let v = view c in
      decoded_names s v.book.kinds v.places v.book.lines kinds table row (set_of v.book words) serials places
      (subst (λ (w : ℕ). Placed w v.book.kinds v.places v.book.lines) belongs.wide (view_placed c))
      (subst (λ (w : ℕ). Filled w v.book.kinds v.places v.book.lines (sets_of s table)) belongs.wide (belongs.closed shut).filled)
      set.kinds

  -- the words over yes and no tell whether the kind is in the question's set
  pub fitted_set : (words : List ℕ) (serial place : ℕ) → stands serial (view c).book.kinds ≡ true →
      place ≡ seat (view c).book.kinds (view c).places serial →
      holds (fits_name (view c) s.width (sets_of s table) place) true [] words ≡ set_of (view c).book words serial
  fitted_set words serial place st is =
      let v = view c in
      let placed = view_placed c in
      let filled = (belongs.closed shut).filled in
      let q = stands_position serial v.book.kinds st in
      let here : place ≡ get_or v.places q.0 0 =
      is ∙ seat_at v.book.kinds v.places q.0 serial placed.different placed.paired q.1 q.2 in
      let low : ltb place s.width ≡ true = lt-ltb place s.width (omega (arith, placed.below q.0 q.1, belongs.wide, here)) in
      holds_set v (sets_of s table) placed filled words (fits_name v s.width (sets_of s table) place) true q.0 q.1
      (λ k.
      ap (λ (t : Bool). t && row_places v (sets_of s table) k place) low
      ∙ ap (row_places v (sets_of s table) k) here
      ∙ named_descends v (sets_of s table) placed filled q.0 q.1 k)
      refl
      ∙ ap (set_of v.book words) q.2

-- a head and names are an answer
pub answer_written : (names old new kinds : List ℕ) (n : ℕ) → names ≡ map (word_of Name) kinds → n ≡ length names + 1 →
    new ≡ word_of AnswerHead (length names) ∷ names ++ drop n old →
    (n ≡ length (answer_of kinds)) × (new ≡ answer_of kinds ++ drop (length (answer_of kinds)) old)
answer_written names old new kinds n e many is =
    let long = ap length e in
    let count : length names ≡ length kinds = long ∙ length-map kinds (word_of Name) in
    let whole : n ≡ length (answer_of kinds) = omega (arith, long) in (
      whole,
      is
          ∙ ap₂ (λ (k : ℕ) (ys : List ℕ). word_of AnswerHead k ∷ ys ++ drop n old) count e
          ∙ ap (λ (m : ℕ). answer_of kinds ++ drop m old) whole,
    )

-- what lies past them stays
pub answer_past : (names old new : List ℕ) (n head : ℕ) → n ≡ length names + 1 → new ≡ head ∷ names ++ drop n old → drop n new ≡ drop n old
answer_past names old new n head many is =
    let long : length (head ∷ names) ≡ n = omega arith in
    ap (drop n) is ∙ drop_at (head ∷ names) (drop n old) n long
