use Rattle.std.proofs.Common.{◌^◌, not, ◌&&◌, ltb, length, get_or, sym, ap, ◌∙◌}
use Rattle.descent.specs.declared.kind.Kind.{Kind}
use Rattle.closing.specs.Tables.{sets_of}
use Rattle.asking.specs.Decoding.{apart, chosen}
use Rattle.asking.proofs.Covering.{row_is}
use Rattle.asking.proofs.Written.{each_below, place_within, written_more, written_same}
use Rattle.asking.proofs.decode.Decoder.write_names.Goals as goal
use Rattle.asking.proofs.decode.Decoder.write_names.Goals.{then-is_chosen, else-is_chosen}

none : Kind
none = record { serial = 0; place = 0 }

pub loop-kind-preserved : goal.loop-kind-preserved
unfolding none
loop-kind-preserved g c =
    let s = g.C.Truth.sort in
    let st = c.args.self.now.standing.now in
    let kinds = st.kinds.now in
    let table = c.args.self.now.table.now in
    let out = s.means c.args.self.now.outside in
    let below = s.means c.args.below.now in
    let test = chosen s.width (sets_of s table) out below in
    let i = c.loop-kind.kind-index in
    let q = (get_or kinds i none).place in
    let row = c.index-self-kind.result in
    let lt = c.loop-kind-test.true in
    let small = each_below (λ k. k.serial) (2 ^ 28) kinds i none st.serials lt in
    let inside = place_within st (length table) i none c.args.self.now.rows c.loop-kind-test.true in
    let tested =
    ap (λ f. apart s.width f out && not (ltb q s.width && below q)) (row_is s table q row inside c.index-self-kind.is)
    ∙ ap (λ r. apart s.width (s.reads r) out && not (ltb q s.width && below q)) c.index-self-kind.is in
    elim c.if-is_chosen.branch [
      | then-is_chosen w ↦
          written_more test kinds i none lt c.args.answer.now c.loop-kind.answer _ c.loop-kind.count _ w.make_word.result
          c.loop-kind.invariant (tested ∙ sym w.if-is_chosen.ensures) small c.requires
          c.loop-kind.auto.answer w.make_word.ensures w.count-is w.answer-is
      | else-is_chosen w ↦
          written_same test kinds i none lt c.args.answer.now c.loop-kind.answer _ c.loop-kind.count _
          c.loop-kind.invariant (tested ∙ sym w.if-is_chosen.ensures) w.count-is w.answer-is
    ]
