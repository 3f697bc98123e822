-- When each number of the two calls is given, in words: that of the call for all voices is the number of a list of seven rules, and each
-- rule's test says its sentence; 10 comes behind them. Assumes nothing.
use mathlib.Core.Path.{◌≡◌, refl, sym, ap, ◌∙◌, subst}
use mathlib.Core.Bool.{Bool, true, false, not, ◌||◌, cond}
use mathlib.Core.List.{List, [], ◌∷◌}
use mathlib.Core.Logic.{◌≢◌, ◌⊎◌, inl, inr, ⊎_elim, ◌↔◌}
use Prim.Native.Nat.{ℕ, zero, suc, ◌+◌, ◌*◌, ◌^◌, ◌≤◌, ◌<◌}
use native.Mathlib.Omega.{arith}
use lib.Dec.{eqb, ltb, lit<}
use lib.ListN.{length}
use borrow.Author.Tests.{ne_eqb, eqb-false, lt-ltb, ltb-true, not-true}
use Rattle.lists.specs.Lowest.{Rule, rule, lowest, LowestGiven}
use Rattle.lists.specs.Some.{some}
use Rattle.lists.proofs.Bools.{clash, or_one, not_no}
use Rattle.lists.proofs.Lowest.{holds_or, Told, told_none, told_rule, told_next, lowest_told}
use Rattle.lists.proofs.Some.{some_place, none_each}
use Rattle.numbers.specs.Sizes.{MIXES}
use Rattle.layout.specs.Exactly.{LengthsWrong, EndsPast, ShareByte}
use Rattle.layout.specs.Places.{places_of, inside, apart, region_most}
use Rattle.layout.proofs.Places.{lengths_say, ends_say, shares_say}
use Rattle.voice.specs.Blank.{default_voice}
use Rattle.voice.specs.Malformed.{malformed}
use Rattle.voice.specs.declared.record.Voice.{Voice}
use Rattle.voice.proofs.Formed.{malformed_exactly}
use Rattle.stems.specs.declared.Fixed.{Fixed}
use Rattle.stems.specs.Memory.{Lent, lane_length, record_of}
use Rattle.stems.specs.Call.{or_else, wrong_voices, lengths, lengths_number, whole_number, alone_number}
use Rattle.stems.specs.Exactly.{Applies, region_lengths, place_ends_past, places_share, window_exceeds, records_not_24}
use Rattle.stems.specs.Exactly.{lanes_not_24_times, mixes_not_1920, record_malformed, WholeExactly}
use Rattle.stems.specs.Exactly.{AloneApplies, as_for_all, voice_over_23, AloneExactly}
use Rattle.stems.proofs.Shape.{voices_right}

-- ---- one list of rules

-- seven tests, each with its number
abbrev seven : Bool → Bool → Bool → Bool → Bool → Bool → Bool → List Rule
seven a b c d e f g = rule a 1 ∷ rule b 2 ∷ rule c 3 ∷ rule d 4 ∷ rule e 5 ∷ rule f 6 ∷ rule g 7 ∷ []

chained : (a b c d e f g : Bool)
    → or_else (or_else (cond a 1 (cond b 2 (cond c 3 0))) (or_else (cond d 4 0) (cond e 5 (cond f 6 0)))) (cond g 7 0)
    ≡ lowest (seven a b c d e f g)
chained true b c d e f g = refl
chained false true c d e f g = refl
chained false false true d e f g = refl
chained false false false true e f g = refl
chained false false false false true f g = refl
chained false false false false false true g = refl
chained false false false false false false g = refl

-- ---- 5: how many samples are 24 times L, of one L only

lane_length_lem : (n L : ℕ) → n ≡ 24 * L → lane_length n ≡ L
unfolding lane_length
lane_length_lem n L e = omega arith

fitting : (n L : ℕ) → L ≤ 65536 → n ≡ 24 * L → (not (eqb n (24 * lane_length n)) || ltb 65536 (lane_length n)) ≡ true → ⊥
fitting n L h e t =
    let is = lane_length_lem n L e in
    ⊎_elim (λ r. eqb-false n (24 * lane_length n) (not-true _ r) (e ∙ ap (λ k. 24 * k) (sym is)))
    (λ r. omega (arith, ltb-true 65536 (lane_length n) r)) (or_one (not (eqb n (24 * lane_length n))) _ t)

-- a test that says a sentence says what the sentence is taken for
taken : {S A : Type 0} {b : Bool} → (b ≡ true) ↔ S → (S → A) → (A → S) → (b ≡ true) ↔ A
taken e f g = (λ t. f (e.0 t), λ a. e.1 (g a))

module _ (fx : Fixed) (x : Lent) where
  abbrev first : ℕ
  first = length x.memory.region0

  abbrev second : ℕ
  second = length x.memory.region1

  abbrev lanes : ℕ
  lanes = length x.memory.lanes

  -- ---- the tests

  abbrev unlike : Bool
  unlike = not (eqb first second) || ltb region_most first

  abbrev past : Bool
  past = not (inside first (places_of fx.layout))

  abbrev shared : Bool
  shared = not (apart (places_of fx.layout))

  abbrev far : Bool
  far = ltb (2 ^ 32) (fx.base + length x.memory.window)

  abbrev voices_wrong : Bool
  voices_wrong = wrong_voices (length x.memory.records) lanes

  abbrev mixes_wrong : Bool
  mixes_wrong = not (eqb (length x.mixes) MIXES)

  abbrev bad : Bool
  bad = some (malformed (lane_length lanes)) x.memory.records

  -- ---- the sentence of a number, and the numbers that have one

  one : Applies fx x 1 → LengthsWrong first second
  one (region_lengths s) = s

  two : Applies fx x 2 → EndsPast first fx.layout
  two (place_ends_past s) = s

  three : Applies fx x 3 → ShareByte fx.layout
  three (places_share s) = s

  four : Applies fx x 4 → 2 ^ 32 < fx.base + length x.memory.window
  four (window_exceeds s) = s

  six : Applies fx x 6 → length x.mixes ≢ MIXES
  six (mixes_not_1920 s) = s

  range : {n : ℕ} → Applies fx x n → (0 < n) × (n < 8)
  range (region_lengths s) = (lit< tt, lit< tt)
  range (place_ends_past s) = (lit< tt, lit< tt)
  range (places_share s) = (lit< tt, lit< tt)
  range (window_exceeds s) = (lit< tt, lit< tt)
  range (records_not_24 s) = (lit< tt, lit< tt)
  range (lanes_not_24_times s) = (lit< tt, lit< tt)
  range (mixes_not_1920 s) = (lit< tt, lit< tt)
  range (record_malformed i h s) = (lit< tt, lit< tt)

  below : (n : ℕ) → n < 1 → Applies fx x n → ⊥
  below n h s = let r = range s in omega arith

  above : (n : ℕ) → 8 ≤ n → Applies fx x n → ⊥
  above n h s = let r = range s in omega arith

  -- ---- what the tests of 5, 6 and 7 say

  voices_say : (voices_wrong ≡ true) ↔ Applies fx x 5
  voices_say = (to, λ a. back a (holds_or voices_wrong))
    where
      records : ℕ
      records = length x.memory.records

      to : voices_wrong ≡ true → Applies fx x 5
      to t = ⊎_elim
          (λ r. records_not_24 (eqb-false records 24 (not-true _ r)))
          (λ r. lanes_not_24_times (λ L h e. fitting lanes L h e r))
          (or_one (not (eqb records 24)) _ t)

      back : Applies fx x 5 → (voices_wrong ≡ true) ⊎ (voices_wrong ≡ false) → voices_wrong ≡ true
      back a (inl t) = t
      back (records_not_24 s) (inr f) = absurd (s (voices_right records lanes f).0)
      back (lanes_not_24_times s) (inr f) = let r = voices_right records lanes f in absurd (s (lane_length lanes) r.2 r.1)

  mixes_say : (mixes_wrong ≡ true) ↔ Applies fx x 6
  mixes_say = (λ t. mixes_not_1920 (eqb-false _ _ (not-true _ t)), λ a. not_no (ne_eqb _ _ (six a)))

  records_say : (bad ≡ true) ↔ Applies fx x 7
  unfolding record_of
  records_say = (to, λ a. back a (holds_or bad))
    where
      test : Voice → Bool
      test = malformed (lane_length lanes)

      to : bad ≡ true → Applies fx x 7
      to t =
          let p = some_place test x.memory.records default_voice t in
          record_malformed p.0 p.1 ((malformed_exactly _ _).0 p.2)

      back : Applies fx x 7 → (bad ≡ true) ⊎ (bad ≡ false) → bad ≡ true
      back a (inl t) = t
      back (record_malformed i h s) (inr f) =
          absurd (clash (sym ((malformed_exactly _ _).1 s) ∙ none_each test x.memory.records default_voice f i h))

  -- ---- all seven

  rules : List Rule
  rules = seven unlike past shared far voices_wrong mixes_wrong bad

  number_is : whole_number fx x ≡ lowest rules
  unfolding rules whole_number lengths_number lengths
  number_is = chained unlike past shared far voices_wrong mixes_wrong bad

  rules_told : Told (Applies fx x) 0 rules
  unfolding rules
  rules_told =
      told_rule (λ n h. below n) (taken (lengths_say first second) region_lengths one)
      (told_next past (taken (ends_say first fx.layout) place_ends_past two)
      (told_next shared (taken (shares_say fx.layout) places_share three)
      (told_next far (taken (ltb-true (2 ^ 32) _, lt-ltb (2 ^ 32) _) window_exceeds four)
      (told_next voices_wrong voices_say
      (told_next mixes_wrong mixes_say
      (told_next bad records_say (told_none above)))))))

  exactly : LowestGiven (Applies fx x) (whole_number fx x)
  unfolding rules
  exactly = subst (LowestGiven (Applies fx x)) (sym number_is) (lowest_told (Applies fx x) rules refl rules_told)

pub whole_exactly : WholeExactly
whole_exactly = exactly

-- ---- one voice alone

module _ (fx : Fixed) (v : ℕ) (x : Lent) where
  abbrev S : ℕ → Type 0
  S = AloneApplies fx v x

  -- a number of the call for all voices comes first, since it is below 10
  first_given : (n : ℕ) → 0 < n → LowestGiven (Applies fx x) n → LowestGiven S n
  first_given n h w = record {
    none = (λ e. absurd (omega arith), λ nobody. absurd (nobody n (as_for_all (at n h refl).0)));
    number = λ m k. (λ e. (as_for_all (at m k e).0, λ j l s. before m j (at m k e) l s), λ s. back m k s.0 s.1);
  }
    where
      at : (m : ℕ) → 0 < m → n ≡ m → Applies fx x m × ((k : ℕ) → k < m → Applies fx x k → ⊥)
      at m k e = (w.number m k).0 e

      before : (m j : ℕ) → Applies fx x m × ((k : ℕ) → k < m → Applies fx x k → ⊥) → j < m → S j → ⊥
      before m j a l (as_for_all s) = a.1 j l s
      before m j a l (voice_over_23 o) = let r = range fx x a.0 in omega arith

      back : (m : ℕ) → 0 < m → S m → ((k : ℕ) → k < m → S k → ⊥) → n ≡ m
      back m k (as_for_all s) none_below = (w.number m k).1 (s, λ j l a. none_below j l (as_for_all a))
      back m k (voice_over_23 o) none_below =
          let a = (at n h refl).0 in
          let r = range fx x a in
          absurd (none_below n (omega arith) (as_for_all a))

  -- and where there is none the voice's number decides
  ten_given : (b : Bool) → ltb 23 v ≡ b → LowestGiven (Applies fx x) 0 → LowestGiven S (cond b 10 0)
  ten_given true e w = record {
    none = (λ z. absurd (omega arith), λ nobody. absurd (nobody 10 (voice_over_23 (ltb-true 23 v e))));
    number = λ m k. (
      λ is. (subst S is (voice_over_23 (ltb-true 23 v e)), λ j l s. before j (omega arith) s),
      λ s. back m s.0,
    );
  }
    where
      before : (j : ℕ) → j < 10 → S j → ⊥
      before j l (as_for_all s) = w.none.0 refl j s
      before j l (voice_over_23 o) = omega arith

      back : (m : ℕ) → S m → 10 ≡ m
      back m (as_for_all s) = absurd (w.none.0 refl m s)
      back m (voice_over_23 o) = refl
  ten_given false e w = record {
    none = (λ z n s. nobody n s, λ h. refl);
    number = λ m k. (λ is. absurd (omega arith), λ s. absurd (nobody m s.0));
  }
    where
      nobody : (n : ℕ) → S n → ⊥
      nobody n (as_for_all s) = w.none.0 refl n s
      nobody n (voice_over_23 o) = clash (sym (lt-ltb 23 v o) ∙ e)

  given : (n : ℕ) → LowestGiven (Applies fx x) n → LowestGiven S (or_else n (cond (ltb 23 v) 10 0))
  given zero w = ten_given (ltb 23 v) refl w
  given (suc n) w = first_given (suc n) (omega arith) w

  alone : LowestGiven S (alone_number fx v x)
  unfolding alone_number
  alone = given (whole_number fx x) (exactly fx x)

pub alone_exactly : AloneExactly
alone_exactly = alone
