-- What calls leave in the list for rings.
use Rattle.std.specs.Prelude.{◌≡◌, ℕ, List, Ok, Err, Result}
use Rattle.words.specs.declared.refusal.Refusal.{Refusal}
use Rattle.words.specs.declared.refusal.Part.{Part}
use Rattle.words.specs.declared.refusal.Part.TheVariants as part
use Rattle.words.specs.Refusals.{refusal}
use Rattle.descent.specs.declared.line.Line.{Line}
use Rattle.closing.specs.Closing.{Told}
use Rattle.histories.specs.declared.reply.Reply.{Reply}

-- a refusal by closing is that of a ring, which the list tells; after any other the list is as it was
abbrev pub RingBy : Part → Refusal → List Line → List ℕ → List ℕ → Type 0
RingBy part.Closing told ls old new = (told ≡ refusal 11 0 part.Closing) × Told ls old new
RingBy _ told ls old new = new ≡ old

-- the list for rings after a call: where the call was accepted it is as it was
abbrev pub RingLeft : {W : Type 0} → List Line → List ℕ → List ℕ → Result (Reply W) Refusal → Type 0
RingLeft ls old new (Ok reply) = new ≡ old
RingLeft ls old new (Err told) = RingBy told.part told ls old new
