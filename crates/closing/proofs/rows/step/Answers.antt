use Rattle.std.proofs.Common.{◌≡◌, ℕ, ◌<◌, Bool, true, false, ◌||◌, length, sym, ap, ◌∙◌, arith}
use Rattle.std.proofs.lemmas.List.{set-get_or}
use Rattle.closing.specs.Tables.{sets_of, cell}
use Rattle.closing.proofs.Cells.{cell_at, cell_read, within_and, step-joins, step-leaves}
use Rattle.closing.proofs.rows.step.Goals as goal
use Rattle.closing.proofs.rows.step.Goals.{then-has, else-has}

pub loop-slot-preserved : goal.loop-slot-preserved
loop-slot-preserved g c =
    let s = g.C.Truth.sort in
    let k = c.args.k in
    let l = c.loop-slot in
    let i = l.slot-index in
    let old = sets_of s c.args.rows.now in
    let within : i < length l.rows = omega arith in
    let own : (j : ℕ) → j < s.width → s.means c.read-row.result j ≡ cell (sets_of s l.rows) i j =
    λ j h. c.read-row.ensures.set j h ∙ sym (cell_at s l.rows i j c.slot-item.result within) in
    let pivot : (j : ℕ) → j < s.width → s.means c.read-pivot.result j ≡ cell old k j =
    λ j h. c.read-pivot.ensures.set j h ∙ sym (cell_read s c.args.rows.now k j c.index-rows-k.result c.requires.row c.index-rows-k.is) in
    let place : k < s.width = omega arith in
    let has : (b : Bool) → b ≡ c.has.result → cell (sets_of s l.rows) i k ≡ b =
    λ b e. sym (own k place) ∙ sym (within_and k s.width (s.means c.read-row.result k) place) ∙ sym c.has.ensures ∙ sym e in
    elim c.if-has.branch [
      | then-has w ↦
          let x = w.write.result in
          let joined : (j : ℕ) → j < length c.args.rows.now → s.reads x j ≡ (cell (sets_of s l.rows) i j || cell old k j) =
          λ j low.
          let h : j < s.width = omega arith in
          ap (λ r. s.reads r j) w.write.ensures
          ∙ g.met.C.Truth.lawful.back w.join.new.self j h
          ∙ w.join.ensures j h
          ∙ (rw (own j h, pivot j h)) in
          rw w.rows-is (step-joins s (length c.args.rows.now) k old l.rows i l.invariant x within (has true (sym w.if-has.true)) joined)
      | else-has w ↦ rw (w.rows-is, set-get_or l.rows i c.slot-item.result)
          (step-leaves s (length c.args.rows.now) k old l.rows i l.invariant (has false (sym w.if-has.false)))
    ]
