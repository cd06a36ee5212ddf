use Rattle.std.proofs.Common.{[], sym, ap, ◌∙◌, arith}
use Rattle.std.proofs.lemmas.List.Folds.{length-prefix_len}
use Rattle.std.proofs.lemmas.List.Sums.{prefix_len-le-length}
use Rattle.terminal.proofs.Splits.{is_plain, text, behind, fields_text, fields_field, any_space_field, text_empty}
use Rattle.terminal.proofs.fields.split_field.Goals as goal

pub split_at-requires : goal.split_at-requires
split_at-requires c = rw c.space_len.ensures (prefix_len-le-length _ _)

pub split_at-requires-2 : goal.split_at-requires-2
split_at-requires-2 c = rw c.field_len.ensures (prefix_len-le-length _ _)

pub returns : goal.returns
returns c =
    let line = c.args.line.now in
    let front = c.split_at-2.ensures.front in
    let back = c.split_at-2.ensures.back in
    let len = c.field_len.ensures in
    let at = c.split_at.ensures.back in
    let spaces = c.space_len.ensures in
    record {
      first = rw (front, back, len, at, spaces) (sym (fields_text line) ∙ fields_field [] (text line));
      plain = rw (front, len, at, spaces) (any_space_field (text line));
      within = omega arith;
      none = λ e. let z = sym (length-prefix_len is_plain (text line)) ∙ rw (front, len, at, spaces) at e in
          rw (back, len, at, spaces) (ap behind (text_empty line z));
    }
