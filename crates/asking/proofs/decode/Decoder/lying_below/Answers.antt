use Rattle.std.proofs.Common.{not, ◌&&◌, ◌||◌, eqb, length, get_or, sym, ap, ◌∙◌, ap₂}
use Rattle.descent.specs.declared.kind.Kind.{Kind}
use Rattle.descent.specs.Lines.{places_of}
use Rattle.descent.proofs.Lines.{place_at}
use Rattle.asking.specs.Decoding.{apart}
use Rattle.asking.proofs.Covering.{below_joined, below_left}
use Rattle.asking.proofs.Written.{place_within}
use Rattle.asking.proofs.decode.Decoder.lying_below.Goals as goal
use Rattle.asking.proofs.decode.Decoder.lying_below.Goals.{then-is_covered, else-is_covered}

none : Kind
none = record { serial = 0; place = 0 }

pub loop-kind-preserved : goal.loop-kind-preserved
unfolding none
loop-kind-preserved g c =
    let s = g.C.Truth.sort in
    let st = c.args.self.now.standing.now in
    let kinds = st.kinds.now in
    let table = c.args.self.now.table.now in
    let out = s.means c.args.self.now.outside in
    let i = c.loop-kind.kind-index in
    let q = (get_or kinds i none).place in
    let row = c.index-self-kind.result in
    let at = place_at kinds i none c.loop-kind-test.true in
    let inside = place_within st (length table) i none c.args.self.now.rows c.loop-kind-test.true in
    let seen = ap (λ r. apart s.width (s.reads r) out) c.index-self-kind.is in
    elim c.if-is_covered.branch [
      | then-is_covered w ↦
          λ p h.
          ap (λ b. s.means b p) w.below-is
          ∙ w.join_others.ensures p h
          ∙ ap₂ (λ b r. b || (s.reads r p && not (eqb p q))) (c.loop-kind.invariant p h) (sym c.index-self-kind.is)
          ∙ sym (below_joined s table out (places_of kinds) i row q at.0 at.1 inside c.index-self-kind.is (seen ∙ sym w.if-is_covered.ensures) p)
      | else-is_covered w ↦
          λ p h.
          ap (λ b. s.means b p) w.below-is
          ∙ c.loop-kind.invariant p h
          ∙ sym (below_left s table out (places_of kinds) i row q at.0 at.1 inside c.index-self-kind.is (seen ∙ sym w.if-is_covered.ensures) p)
    ]
