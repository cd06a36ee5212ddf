-- A catalogue as a specification sees it, and how a call moves it.
use Rattle.std.specs.Prelude.{◌≡◌, ℕ, ◌<◌, true, false, List, map, length, is_err, Some, None, vec_items, Option, Result, slice_index, slice_index_or}
use Rattle.descent.specs.declared.kind.Kind.{Kind}
use Rattle.descent.specs.Lines.{stands}
use Rattle.words.specs.declared.refusal.Refusal.{Refusal}
use Rattle.words.specs.Refusals.{Says}
use Rattle.descent.specs.declared.standing.Standing.{Standing}
use Rattle.catalogue.specs.declared.state.Catalogue.{Catalogue}
use Rattle.catalogue.specs.Ledger.{Ledger, Call, refused, after}

pub record View : Type 0 where
  -- what stands there
  pub book : Ledger
  -- the place of each kind, in the order of the kinds
  pub places : List ℕ
  -- the places that no kind has
  pub free : List ℕ

abbrev pub view : Catalogue → View
view c =
    record {
      book =
          record {
            wide = c.seats.kinds.most;
            kinds = map (λ k. k.serial) (vec_items c.seats.kinds.entries);
            lines = vec_items c.lines.entries;
            closed = c.closed;
          };
      places = map (λ k. k.place) (vec_items c.seats.kinds.entries);
      free = vec_items c.seats.free;
    }

-- the call is answered as the ledger says and moves the catalogue as the ledger moves; a refusal leaves all as it was
pub record Moved {T F : Type 0} (told : F → Refusal) (call : Call) (old new : View) (r : Result T F) : Type 0 where
  pub says : Says told r (refused old.book call)
  pub moves : new.book ≡ after old.book call
  pub same : is_err r ≡ true → new ≡ old

-- what is lent to readers is what stands in the catalogue
pub record Shows (v : View) (s : Standing) : Type 0 where
  pub width : s.width ≡ v.book.wide
  pub serials : map (λ k. k.serial) s.kinds.now ≡ v.book.kinds
  pub places : map (λ k. k.place) s.kinds.now ≡ v.places
  pub lines : s.lines.now ≡ v.book.lines

-- a kind that stands is found, with its serial and its place
pub record FoundAt (v : View) (serial : ℕ) (k : Kind) : Type 0 where
  pub at : ℕ
  pub within : at < length v.book.kinds
  pub named : slice_index_or v.book.kinds at 0 ≡ serial
  pub serial_is : k.serial ≡ serial
  pub place_is : k.place ≡ slice_index v.places at

abbrev pub Found : View → ℕ → Option Kind → Type 0
Found v serial (Some k) = FoundAt v serial k
Found v serial None = stands serial v.book.kinds ≡ false
