use Rattle.std.proofs.Common.{◌≡◌, ℕ, Bool, true, false, not, eqb, List, ◌∷◌, [], ◌++◌, length, get_or, Ok, Err, Result, sym, refl, ◌∙◌, arith, MatchResult}
use Rattle.std.proofs.lemmas.Bool.{eqb-true, not-false, not-true, eqb-false}
use Rattle.descent.specs.Lines.{serials_of}
use Rattle.descent.proofs.Proper.{joining-line}
use Rattle.stack.specs.Held.{held, room}
use Rattle.closing.proofs.Trails.{setting_out, leader_stands, place_inside, room_left, goes_on, fewer_zeros, closes}
use Rattle.closing.proofs.ring.ClosedTable.climb.Goals as goal

-- a push that cannot be refused is made
pushed : {T E : Type 0} (r : Result T E) (P : Type 0) (Q : Type 0) → MatchResult r (λ _. P) (λ _. Q) → (Q → ⊥) → P
pushed (Ok _) P Q h out = h
pushed (Err _) P Q h out = absurd (out h)

unmarked : (bytes : List ℕ) (p : ℕ) (b : Bool) → b ≡ not (eqb (get_or bytes p 0) 0) → b ≡ false → get_or bytes p 0 ≡ 0
unmarked bytes p b e off = eqb-true (get_or bytes p 0) 0 (not-false (eqb (get_or bytes p 0) 0) (sym e ∙ off))

marked : (bytes : List ℕ) (p : ℕ) (b : Bool) → b ≡ not (eqb (get_or bytes p 0) 0) → b ≡ true → get_or bytes p 0 ≡ 0 → ⊥
marked bytes p b e on = eqb-false (get_or bytes p 0) 0 (not-true (eqb (get_or bytes p 0) 0) (sym e ∙ on))

pub place_of-place-requires : goal.place_of-place-requires
place_of-place-requires g c = leader_stands c.args.self.now.standing.now c.args.top c.args.top c.requires.comes_round

pub loop-marks-init : goal.loop-marks-init
loop-marks-init g c = record {
  walk = setting_out c.args.self.now.standing.now c.args.top c.args.marks.now.bytes.now (held c.args.stack.now)
      c.requires.comes_round c.requires.unmarked c.requires.none_held;
  at = c.place_of-place.ensures;
  slots = (refl, refl);
  lender = refl;
}

pub is_set-requires : goal.is_set-requires
is_set-requires g c =
    let i = c.loop-marks.invariant in let inside = place_inside c.args.self.now.standing.now i.walk in omega (arith, i.at)

pub set-requires : goal.set-requires
set-requires g c =
    let i = c.loop-marks.invariant in let inside = place_inside c.args.self.now.standing.now i.walk in omega (arith, i.at)

pub place_of-place-requires-in-loop-marks : goal.place_of-place-requires-in-loop-marks
place_of-place-requires-in-loop-marks g c =
    let st = c.args.self.now.standing.now in
    (joining-line (serials_of st.kinds.now) st.lines.now st.joins c.loop-marks.kind c.parent_towards-kind.result c.parent_towards-kind.ensures.line).1

pub loop-marks-smaller : goal.loop-marks-smaller
loop-marks-smaller g c =
    let l = c.loop-marks in
    fewer_zeros c.args.self.now.standing.now c.args.top l.marks.bytes.now (held l.stack) l.kind l.place c.set.new.self.bytes.now
    l.invariant.walk l.invariant.at
    (unmarked l.marks.bytes.now l.place c.is_set.result c.is_set.ensures c.loop-marks-test.true) c.set.ensures.after

pub loop-marks-preserved : goal.loop-marks-preserved
loop-marks-preserved g c =
    let st = c.args.self.now.standing.now in
    let l = c.loop-marks in
    let bytes = l.marks.bytes.now in
    let met = held l.stack in
    let free : get_or bytes l.place 0 ≡ 0 = unmarked bytes l.place c.is_set.result c.is_set.ensures c.loop-marks-test.true in
    let room-here = room_left st l.invariant.walk (rw l.invariant.at at free) in
    let slots = l.invariant.slots.1 in
    let made = pushed c.push.result (held c.push.new.self ≡ met ++ l.place ∷ [])
    ((length met ≡ room l.stack) × (c.push.new.self ≡ l.stack)) c.push.ensures.cases (λ full. omega (arith, full.0, c.requires.one_slot_each)) in
    record {
      walk = goes_on st c.args.top bytes met l.kind l.place c.set.new.self.bytes.now (held c.push.new.self) c.parent_towards-kind.result
          l.invariant.walk c.requires.comes_round l.invariant.at free c.set.ensures.after made
          c.parent_towards-kind.ensures.line c.parent_towards-kind.ensures.leads_on;
      at = c.place_of-place-in-loop-marks.ensures;
      slots = (c.push.ensures.slots.0 ∙ l.invariant.slots.0, c.push.ensures.slots.1 ∙ l.invariant.slots.1);
      lender = c.set.ensures.lender ∙ l.invariant.lender;
    }

pub returns-clause-looped : goal.returns-clause-looped
returns-clause-looped g c =
    let l = c.loop-marks in
    rw l.invariant.at
    (closes c.args.self.now.standing.now c.args.top l.marks.bytes.now (held l.stack) l.kind l.invariant.walk
    (λ e. marked l.marks.bytes.now l.place c.is_set.result c.is_set.ensures c.loop-marks-test.false (rw l.invariant.at e)))
