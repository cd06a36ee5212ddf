-- What a call says: by the rules, and as the program tells it.
use Rattle.std.specs.Prelude.{◌≡◌, ℕ, ◌≤◌, Bool, List, Some, None, Ok, Err, Option, Result}
use Rattle.words.specs.declared.refusal.Refusal.{Refusal}
use Rattle.formats.specs.Formats.{answer_of, image_of}
use Rattle.catalogue.specs.Ledger.{Ledger, Call, refused, still_standing, answering, set_of, enter, withdraw, enter_line, withdraw_line, read_image, write_image, recall, close, ask, fit}
use Rattle.histories.specs.declared.reply.Reply.{Reply}
use Rattle.histories.specs.declared.reply.Reply.TheVariants.{Done, Words, Verdict}

pub data Saying : Type 0 where
  -- accepted, with nothing to tell
  done : Saying
  -- accepted, with these words written
  wrote : List ℕ → Saying
  -- yes or no
  verdict : Bool → Saying
  -- refused
  stopped : Refusal → Saying

-- what an accepted call gives
abbrev pub given : Ledger → Call → Saying
given l (enter x) = done
given l (withdraw x) = done
given l (enter_line c p) = done
given l (withdraw_line c p) = done
given l (read_image ws) = done
given l (write_image room) = wrote (image_of l.kinds l.lines)
given l (recall ws room) = wrote (answer_of (still_standing l ws))
given l (close table marks walk ring) = done
given l (ask ws table working answer) = wrote (answer_of (answering l ws))
given l (fit x ws table working) = verdict (set_of l ws x)

-- a refusal that is due, else this
abbrev pub unless_due : Option Refusal → Saying → Saying
unless_due None s = s
unless_due (Some r) s = stopped r

-- what the rules have a call say where this stands
abbrev pub saying : Ledger → Call → Saying
saying l c = unless_due (refused l c) (given l c)

-- what the program told, where its replies tell these words
abbrev pub said : {W : Type 0} → (W → List ℕ) → Result (Reply W) Refusal → Saying
said words (Ok Done) = done
said words (Ok (Words w)) = wrote (words w)
said words (Ok (Verdict is)) = verdict is
said words (Err told) = stopped told

-- words are written
abbrev pub Writes : Saying → Type 0
Writes (wrote ws) = Unit {0}
Writes _ = ⊥

-- yes or no is said
abbrev pub Judges : Saying → Type 0
Judges (verdict is) = Unit {0}
Judges _ = ⊥

-- what a call gives as a reply tells it: so many words of a list this long, yes or no, or nothing
abbrev pub Replies : ℕ → Saying → Reply ℕ → Type 0
Replies room s Done = s ≡ done
Replies room s (Words n) = Writes s × (n ≤ room)
Replies room s (Verdict is) = Judges s
