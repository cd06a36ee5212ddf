-- A head written before the words behind its place, and how many of a rising row a test keeps.
use Rattle.std.proofs.Common.{◌≡◌, ℕ, suc, ◌+◌, ◌-◌, ◌<◌, ◌≤◌, Bool, true, false, cond, List, [], ◌∷◌, ◌++◌, length, get_or, take, drop, set, filter, sym, refl, ap, ◌∙◌, arith}
use borrow.Rule.Slice.PartMut.{put_mid}
use Rattle.std.proofs.lemmas.List.Elements.{filter_more as kept-by-more}
use Rattle.std.proofs.ByRecursion.{All-weaker, kept_by_passes}
use Rattle.std.proofs.lemmas.List.{append-nil, take_all, drop_all, take-map, get_or-map, length-map}
use Rattle.descent.specs.declared.standing.Standing.{Standing}
use Rattle.descent.specs.Lines.{serials_of, stands}
use Rattle.descent.proofs.Proper.{standing_fits}
use Rattle.descent.specs.Order.{rising_from}
use Rattle.descent.proofs.Rising.{rising_kept, rising-take, rising_fits}
use Rattle.words.specs.Words.{low_bits}
use Rattle.formats.specs.Formats.{serials_in, still_among}

-- a head written before words that were written behind its place
pub head_first : (old words list : List ℕ) (head : ℕ) → 1 ≤ length old → list ≡ words ++ drop (length words) (take (length old - 1) (drop 1 old))
    → set (put_mid 1 (length old - 1) old list) 0 head ≡ head ∷ words ++ drop (suc (length words)) old
head_first [] words list head l e = absurd (omega arith)
head_first (o ∷ os) words list head l e =
    let all : length os ≤ suc (length os) - 1 = omega arith in
    rw (e, take_all (suc (length os) - 1) os all, drop_all (suc (length os) - 1) os all) (ap (λ (ys : List ℕ). head ∷ ys) (append-nil (words ++ drop (length words) os)))

module _ (test : ℕ → Bool) (names : List ℕ) where
  pub kept_next : (i : ℕ) → i < length names → filter test (serials_in (take (i + 1) names))
      ≡ filter test (serials_in (take i names)) ++ cond (test (low_bits (get_or names i 0))) (low_bits (get_or names i 0) ∷ []) []
  kept_next i l =
      ap (filter test) (sym (take-map low_bits (i + 1) names))
      ∙ kept-by-more test (serials_in names) i 0 (let e = length-map names low_bits in omega arith)
      ∙ step (take-map low_bits i names) (get_or-map low_bits names i 0 0 l)
    where
      step : {xs ys : List ℕ} {x y : ℕ} → xs ≡ ys → x ≡ y → filter test xs ++ cond (test x) (x ∷ []) [] ≡ filter test ys ++ cond (test y) (y ∷ []) []
      step e f = cc

  -- no more are kept than stand
  pub kept_few : (ks : List ℕ) (n : ℕ) → rising_from 0 ks ≡ true → rising_from 0 (serials_in names) ≡ true → ((x : ℕ) → test x ≡ stands x ks) → length (filter test (serials_in (take n names))) ≤ length ks
  kept_few ks n q r same =
      rising_fits 0 0 (filter test (serials_in (take n names))) ks
      (rising_kept test 0 (serials_in (take n names)) (ap (rising_from 0) (sym (take-map low_bits n names)) ∙ rising-take 0 n (serials_in names) r)) q
      (All-weaker (λ x. test x ≡ true) (λ x. stands x ks ≡ true) (λ x e. sym (same x) ∙ e) (filter test (serials_in (take n names))) (kept_by_passes test (serials_in (take n names))))

-- what is kept of one name more
module _ (ks names : List ℕ) (i x : ℕ) (within : i < length names) (is : x ≡ low_bits (get_or names i 0)) where
  pub kept_more : stands x ks ≡ true → still_among ks (serials_in (take (i + 1) names)) ≡ still_among ks (serials_in (take i names)) ++ x ∷ []
  kept_more s = kept_next (λ k. stands k ks) names i within ∙ rw (← is, s) refl

  pub kept_same : stands x ks ≡ false → still_among ks (serials_in (take (i + 1) names)) ≡ still_among ks (serials_in (take i names))
  kept_same s = kept_next (λ k. stands k ks) names i within ∙ rw (← is, s) (append-nil (still_among ks (serials_in (take i names))))

-- no more are kept than there are places
pub kept_fit : (s : Standing) (names : List ℕ) (n : ℕ) → rising_from 0 (serials_in names) ≡ true → length (still_among (serials_of s.kinds.now) (serials_in (take n names))) ≤ s.width
kept_fit s names n r =
    let few = kept_few (λ k. stands k (serials_of s.kinds.now)) names (serials_of s.kinds.now) n s.rising r (λ _. refl) in
    omega (arith, few, length-map s.kinds.now (λ k. k.serial), standing_fits s)

pub kept_fit_all : (s : Standing) (names : List ℕ) → rising_from 0 (serials_in names) ≡ true → length (still_among (serials_of s.kinds.now) (serials_in names)) ≤ s.width
kept_fit_all s names r = omega (arith, kept_fit s names (length names) r, ap (λ (ns : List ℕ). length (still_among (serials_of s.kinds.now) (serials_in ns))) (take_all (length names) names (omega arith)))
