-- How far a reader has come.
use Rattle.std.specs.Prelude.{ℕ, List, drop}
use Rattle.questions.specs.declared.lent.Reader.{Reader}

-- the index of the next word
abbrev pub place : Reader → ℕ
place r = r.at

-- the words from there on
abbrev pub unread : Reader → List ℕ
unread r = drop r.at r.words.now
