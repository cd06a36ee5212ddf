-- The worked cases of the rules, in the order of their page. Questions are written with operators after their operands.
use Rattle.std.specs.Prelude.{◌≡◌, ℕ, ◌^◌, ◌<◌, true, false, ◌⊎◌, ◌↔◌, List, [], ◌∷◌, ◌++◌, replicate, None}
use Rattle.descent.specs.Lines.{stands}
use Rattle.descent.specs.Descent.{Descends}
use Rattle.descent.specs.Rings.{Ring}
use Rattle.descent.specs.Coverage.{Uppermost}
use Rattle.words.specs.declared.refusal.Part.TheVariants as part
use Rattle.words.specs.Refusals.{refusal}
use Rattle.formats.specs.Formats.{image_of}
use Rattle.catalogue.specs.Ledger.{Ledger, Call, refused, answering, set_of, enter, withdraw, withdraw_line}
use Rattle.clutch.specs.Clutch.{image, clutch, knotted, line, closing, asking, after_all, name, and, or, not, all, nothing, head, Answers, Fits, Recalls, Refuses}

-- what stands once the image is read and closed
pub record Loaded : Type 0 where
  pub closed : clutch.closed ≡ true
  pub kinds : clutch.kinds ≡ 10 ∷ 20 ∷ 30 ∷ 40 ∷ 50 ∷ []
  pub lines : clutch.lines ≡ line 20 10 ∷ line 30 10 ∷ line 50 20 ∷ line 50 40 ∷ []
  pub written : image_of clutch.kinds clutch.lines ≡ image

-- questions and their answers
pub record Asked : Type 0 where
  pub ten_and_forty : Answers clutch (name 10 ∷ name 40 ∷ and ∷ []) (0x70000001 ∷ 0x10000032 ∷ [])
  pub ten_or_forty : Answers clutch (name 10 ∷ name 40 ∷ or ∷ []) (head 2 ∷ name 10 ∷ name 40 ∷ [])
  pub all_kinds : Answers clutch (all ∷ []) (head 2 ∷ name 10 ∷ name 40 ∷ [])
  pub not_twenty : Answers clutch (name 20 ∷ not ∷ []) (head 1 ∷ name 30 ∷ [])
  pub not_not_twenty : Answers clutch (name 20 ∷ not ∷ not ∷ []) (head 1 ∷ name 20 ∷ [])
  pub twenty_or_thirty : Answers clutch (name 20 ∷ name 30 ∷ or ∷ []) (head 2 ∷ name 20 ∷ name 30 ∷ [])
  pub ten_and_not_twenty : Answers clutch (name 10 ∷ name 20 ∷ not ∷ and ∷ []) (head 1 ∷ name 30 ∷ [])
  pub twenty_and_thirty : Answers clutch (name 20 ∷ name 30 ∷ and ∷ []) (0x70000000 ∷ [])
  pub no_kinds : Answers clutch (nothing ∷ []) (0x70000000 ∷ [])

-- The tests that compute these answers say what the relations say (`descent`: descent_is_decided, uppermost_is_decided). So in every
-- ledger the set of a name is what descends from it,
abbrev pub NameMeansDescent : Type 0
NameMeansDescent =
    (l : Ledger) (k m : ℕ) → k < 2 ^ 28 → (set_of l (name k ∷ []) m ≡ true) ↔ Descends l.lines m k

-- and the kinds that answer a question are those that are uppermost for its set.
abbrev pub AnsweredByUppermost : Type 0
AnsweredByUppermost =
    (l : Ledger) (question : List ℕ) (k : ℕ) →
    (stands k (answering l question) ≡ true) ↔ Uppermost l.kinds l.lines (set_of l question) k

-- 10, 50, 20 from some start
abbrev pub Round : List ℕ → Type 0
Round ring = (ring ≡ 10 ∷ 50 ∷ 20 ∷ []) ⊎ ((ring ≡ 50 ∷ 20 ∷ 10 ∷ []) ⊎ (ring ≡ 20 ∷ 10 ∷ 50 ∷ []))

-- with the line 10-50 a ring stands, and that one only
pub record Knotted : Type 0 where
  pub lines : knotted.lines ≡ line 10 50 ∷ line 20 10 ∷ line 30 10 ∷ line 50 20 ∷ line 50 40 ∷ []
  pub closing-refused : Refuses knotted closing (refusal 11 0 part.Closing)
  pub ring_stands : Ring knotted.lines (10 ∷ 50 ∷ 20 ∷ [])
  pub no_other : (ring : List ℕ) → Ring knotted.lines ring → Round ring

-- fitting a kind to "10 and not 20"
pub record Fitted : Type 0 where
  pub ten : Fits clutch 10 (name 10 ∷ name 20 ∷ not ∷ and ∷ []) true
  pub twenty : Fits clutch 20 (name 10 ∷ name 20 ∷ not ∷ and ∷ []) false

-- words that are no question, and a question with the deepest stack
pub record Faulty : Type 0 where
  pub unknown : Refuses clutch (asking (name 99 ∷ [])) (refusal 5 0 part.Kind)
  pub lone_and : Refuses clutch (asking (and ∷ [])) (refusal 16 0 part.Question)
  pub two_left : Refuses clutch (asking (name 10 ∷ name 20 ∷ [])) (refusal 17 0 part.Question)
  pub deepest : refused clutch (asking (replicate 32 (name 10) ++ replicate 31 and)) ≡ None
  pub too_deep : Refuses clutch (asking (replicate 33 (name 10))) (refusal 15 32 part.Question)
  pub too_long : Refuses clutch (asking (replicate 1025 all)) (refusal 13 0 part.Question)

-- 50 with its lines withdrawn, and 60 entered
abbrev pub replaced : List Call
replaced = withdraw_line 50 20 ∷ withdraw_line 50 40 ∷ withdraw 50 ∷ enter 60 ∷ []

-- the answer 50, kept
abbrev pub kit : List ℕ
kit = 0x70000001 ∷ 0x10000032 ∷ []

-- recalled while 50 does not stand, and once it stands again
pub record Recalled : Type 0 where
  pub gone : Recalls (after_all clutch replaced) kit (0x70000000 ∷ [])
  pub again : Recalls (after_all clutch (replaced ++ enter 50 ∷ [])) kit kit

-- all of them together
pub record Worked : Type 0 where
  pub loaded : Loaded
  pub asked : Asked
  pub names : NameMeansDescent
  pub uppermost : AnsweredByUppermost
  pub knot : Knotted
  pub fitted : Fitted
  pub faulty : Faulty
  pub recalled : Recalled
