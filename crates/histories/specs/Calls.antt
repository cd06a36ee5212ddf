-- Calls as the ledger hears them.
use Rattle.std.specs.Prelude.{ℕ, ◌+◌, ◌*◌, min, List, [], ◌∷◌, length, vec_len}
use Rattle.catalogue.specs.Ledger as ledger
use Rattle.catalogue.specs.Ledger.{Ledger, after}
use Rattle.histories.specs.declared.memory.Lists.{Lists}
use Rattle.histories.specs.declared.memory.Memory.{Memory}
use Rattle.histories.specs.declared.calls.Call.{Call}
use Rattle.histories.specs.declared.calls.Call.TheVariants.{Enter, Withdraw, EnterLine, WithdrawLine, ReadImage, WriteImage, Close, Ask, Fit, Recall}

-- how long the lists are that a finder owns
pub record Rooms : Type 0 where
  pub table : ℕ
  pub marks : ℕ
  pub walk : ℕ
  pub ring : ℕ
  -- rows of codes for asking, truth values for fitting
  pub working : ℕ
  pub truths : ℕ
  -- for answers and images
  pub words : ℕ

-- of lists that are lent
abbrev pub rooms : {R : Type 0} → Lists R → Rooms
rooms l =
    record {
      table = length l.table.now;
      marks = length l.marks.now;
      walk = length l.walk.now;
      ring = length l.ring.now;
      working = length l.working.now;
      truths = length l.truths.now;
      words = length l.words.now;
    }

-- of a finder's memory
abbrev pub rooms_of : {R : Type 0} → Memory R → Rooms
rooms_of m =
    record {
      table = vec_len m.table;
      marks = vec_len m.marks;
      walk = vec_len m.walk;
      ring = vec_len m.ring;
      working = vec_len m.working;
      truths = vec_len m.truths;
      words = vec_len m.words;
    }

-- enough for every call on a catalogue of w places
abbrev pub full_rooms : ℕ → Rooms
full_rooms w = record { table = w; marks = w; walk = w; ring = w + 1; working = 32; truths = 32; words = 2 + w + 2 * 2048 }

-- a call is handed as much of a list as it says, or the whole of a shorter one
abbrev pub heard : Rooms → Call → ledger.Call
heard r (Enter x) = ledger.enter x
heard r (Withdraw x) = ledger.withdraw x
heard r (EnterLine c p) = ledger.enter_line c p
heard r (WithdrawLine c p) = ledger.withdraw_line c p
heard r (ReadImage ws) = ledger.read_image ws.now
heard r (WriteImage n) = ledger.write_image (min n r.words)
heard r (Close t m k n) = ledger.close (min t r.table) (min m r.marks) (min k r.walk) (min n r.ring)
heard r (Ask ws t k n) = ledger.ask ws.now (min t r.table) (min k r.working) (min n r.words)
heard r (Fit x ws t k) = ledger.fit x ws.now (min t r.table) (min k r.truths)
heard r (Recall ws n) = ledger.recall ws.now (min n r.words)

-- what the calls leave, one after another
abbrev pub ledger_after : Ledger → List ledger.Call → Ledger
ledger_after l [] = l
ledger_after l (c ∷ cs) = ledger_after (after l c) cs
