use Rattle.std.proofs.Common.{◌≡◌, ℕ, List, [], map, length, vec_items, vec_len, nat_lt, sym, ap, ◌∙◌, ap₂, arith}
use Rattle.std.proofs.lemmas.List.{nil_from_length}
use Rattle.std.proofs.lemmas.Bool.{eqb-true}
use Rattle.descent.specs.declared.kind.Kind.{Kind}
use Rattle.descent.specs.declared.line.Line.{Line}
use Rattle.descent.specs.Order.{rising_from, line_key}
use Rattle.descent.specs.Proper.{CanHold, joining}
use Rattle.descent.proofs.Rows.{no_lines}
use Rattle.words.specs.Refusals.{image_told}
use Rattle.descent.specs.Lines.{serials_of}
use Rattle.catalogue.specs.declared.state.Catalogue.{Catalogue}
use Rattle.formats.specs.Formats.{kinds_in, lines_in, image_of}
use Rattle.catalogue.specs.Ledger.{read_image}
use Rattle.catalogue.specs.View.{view}
use Rattle.words.proofs.Chain.{passes, last_check, unrefused}
use Rattle.formats.proofs.ImagePassed.{Cut, passed_hold, image-cut, image_back}
use Rattle.catalogue.proofs.Moves.{goes, opens}
use Rattle.catalogue.proofs.state.Catalogue.read_image.Goals as goal
use Rattle.catalogue.proofs.state.Catalogue.read_image.Goals.{In_ok-count}

-- an empty catalogue has no kinds and no lines
empty : (s : Catalogue) → vec_len s.seats.kinds.entries ≡ 0 → (vec_items s.seats.kinds.entries ≡ []) × (vec_items s.lines.entries ≡ [])
empty s e =
    let none : vec_items s.seats.kinds.entries ≡ [] = nil_from_length (vec_items s.seats.kinds.entries) (omega (arith, s.seats.kinds.entries.ok.0)) in
    (none, no_lines (serials_of (vec_items s.seats.kinds.entries)) (vec_items s.lines.entries) (ap serials_of none) s.joins)

-- the words that passed are cut at their count
cut_of : (c : In_ok-count) → Cut c.width.result c.in_ok-count.count c.args.words.now
cut_of c = image-cut c.width.result c.in_ok-count.count c.args.words.now c.in_ok-count.ensures.says c.in_ok-count.ensures.count

-- and what they name and join can be held
hold_of : (c : In_ok-count) → CanHold c.width.result (kinds_in c.args.words.now) (lines_in c.args.words.now)
hold_of c = passed_hold c.width.result c.args.words.now c.width.ensures.bound c.in_ok-count.ensures.says

pub seat_names-requires-clause-rising : goal.seat_names-requires-clause-rising
seat_names-requires-clause-rising c =
    let passed = (goal.at.seat_names-requires-clause-rising c).In_ok-count in
    ap (rising_from 0) (cut_of passed).named ∙ (hold_of passed).rising

pub take_lines-requires : goal.take_lines-requires
take_lines-requires c =
    let s = c.args.self.now in
    let passed = (goal.at.take_lines-requires c).In_ok-count in
    let cut = cut_of passed in
    let hold = hold_of passed in
    record {
      none = (empty s (eqb-true (vec_len s.seats.kinds.entries) 0 (sym c.if-not-is_empty.ensures))).1;
      room = omega (arith, ap length cut.lined, hold.few, s.most);
      rising = ap (λ (ls : List Line). rising_from 0 (map line_key ls)) cut.lined ∙ hold.ordered;
    }

pub invariant_of-self : goal.invariant_of-self
invariant_of-self c =
    let s = c.args.self.now in
    let passed = (goal.at.invariant_of-self c).In_ok-count in
    let cut = cut_of passed in
    let hold = hold_of passed in
    let kinds = c.seat_names.ensures.serials ∙ cut.named in
    let lines = c.take_lines.ensures.entries ∙ cut.lined in
    record { most = c.take_lines.ensures.most ∙ s.most; joins = ap₂ (λ (ks : List ℕ) (ls : List Line). joining ks ls) kinds lines ∙ hold.joins }

pub returns-clause-moved : goal.returns-clause-moved
returns-clause-moved c =
    let s = c.args.self.now in
    let ws = c.args.words.now in
    let cut = cut_of (goal.at.returns-clause-moved c).In_ok-count in
    let is = empty s (eqb-true (vec_len s.seats.kinds.entries) 0 (sym c.if-not-is_empty.ensures)) in
    let says = rw c.width.ensures.value at c.in_ok-count.ensures.says in
    goes image_told (read_image ws) (view s) _ _
    (passes _ _ _ (unrefused _ _ (ap (λ (ks : List Kind). nat_lt 0 (length (serials_of ks))) is.0)) (last_check _ _ says))
    (opens (view s).book _ _ _ _ _ c.seat_names.ensures.width (c.seat_names.ensures.serials ∙ cut.named) (c.take_lines.ensures.entries ∙ cut.lined))

pub returns-clause-back : goal.returns-clause-back
returns-clause-back c =
    let cut = cut_of (goal.at.returns-clause-back c).In_ok-count in
    ap₂ image_of (c.seat_names.ensures.serials ∙ cut.named) (c.take_lines.ensures.entries ∙ cut.lined) ∙ image_back c.width.result c.args.words.now c.in_ok-count.ensures.says
