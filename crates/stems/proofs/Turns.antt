-- Voices of a list served in turn: what they leave for a voice that stands in the list once, its number, the list of refused voices and the
-- mixes. By induction on the list: the voices before it and after it leave what is its own. Assumes nothing.
use mathlib.Core.Path.{◌≡◌, refl, sym, ap, ap₂, ◌∙◌, subst}
use mathlib.Core.Logic.{◌≢◌, ◌⊎◌, inl, inr}
use mathlib.Core.Bool.{Bool, cond}
use mathlib.Core.List.{List, [], ◌∷◌}
use Prim.Native.Nat.{ℕ, zero, suc, ◌<◌}
use native.Mathlib.Omega.{arith}
use lib.IntN.{ℤ, pos, ◌+ℤ◌, +ℤ_assoc, +ℤ_idl, +ℤ_idr}
use lib.ListN.{length, get_or, length-replicate, get_or-replicate}
use borrow.Author.Tests.{eq-eqb, ne_eqb}
use Rattle.numbers.specs.Wrap.{wrap32}
use Rattle.numbers.proofs.Modular.{wrap_left}
use Rattle.voice_frame.specs.VoiceFrame.{Answer, served, refused, number_of, mixes_after}
use Rattle.voice_laws.proofs.Numbers.{parts_wrap}
use Rattle.stems.specs.declared.Fixed.{Fixed}
use Rattle.stems.specs.Memory.{Memory, lane_length}
use Rattle.stems.specs.Call.{answer, serve, adds, serve_all, mixes_in, Refusal, noted, refusals_in, number_in, lengths, no_mixes}
use Rattle.stems.specs.Inner.{LongAs, Long}
use Rattle.stems.specs.Whole.{refused_of, count}
use Rattle.stems.proofs.Orders.{count_zero, Once, count_one, stands_first, stands_in, stands_later, stands_other, Below}
use Rattle.stems.proofs.Orders.{Distinct, sum}
use Rattle.stems.proofs.Shape.{Fits}
use Rattle.stems.proofs.Mixes.{mixed_length, mixed_at}
use Rattle.stems.proofs.Serve.{Good, given_kept, good_serve, serve_lengths, Turn, good_turn}
use Rattle.stems.proofs.Serve.{Same, same_refl, same_answer, same_serve, other_serve}

skip : (v w : ℕ) → w ≢ v → (n : ℕ) (rs : List Refusal) → number_in v (noted w n rs) ≡ number_in v rs
unfolding number_in noted
skip v w h zero rs = refl
skip v w h (suc n) rs = ap (λ b. cond b (suc n) (number_in v rs)) (ne_eqb v w (λ p. h (sym p)))

found : (v n : ℕ) (rs : List Refusal) → number_in v rs ≡ 0 → number_in v (noted v n rs) ≡ n
unfolding number_in noted
found v zero rs e = e
found v (suc n) rs e = ap (λ b. cond b (suc n) (number_in v rs)) (eq-eqb v v refl)

module _ (fx : Fixed) (second : Bool) where
  pub good_all : (vs : List ℕ) (m : Memory) → Below vs → Good fx m → Good fx (serve_all fx second vs m)
  unfolding serve_all
  good_all [] m b g = g
  good_all (v ∷ vs) m b g = good_all vs (serve fx second v m) b.1 (good_serve fx second v m b.0 g)

  pub all_lengths : (vs : List ℕ) (m : Memory) → lengths (serve_all fx second vs m) ≡ lengths m
  unfolding serve_all
  all_lengths [] m = refl
  all_lengths (v ∷ vs) m = all_lengths vs (serve fx second v m) ∙ serve_lengths fx second v m

  -- each in its turn: the lengths fit, and what it is given is as long as its places
  unfoldable pub Turns : List ℕ → Memory → Type 0
  Turns [] m = Unit {0}
  Turns (v ∷ vs) m = Turn fx second v m × Turns vs (serve fx second v m)

  pub good_turns : (vs : List ℕ) (m : Memory) → Below vs → Good fx m → Turns vs m
  unfolding Turns
  good_turns [] m b g = tt
  good_turns (v ∷ vs) m b g =
      (good_turn fx second v m b.0 g, good_turns vs (serve fx second v m) b.1 (good_serve fx second v m b.0 g))

  -- ---- one voice among them

  module _ (v : ℕ) (hv : v < 24) where
    none_same : (vs : List ℕ) (a b : Memory) → Turns vs a → count v vs ≡ 0 → Same fx.layout v a b
        → Same fx.layout v (serve_all fx second vs a) b
    unfolding serve_all Turns
    none_same [] a b t c s = s
    none_same (w ∷ ws) a b t c s =
        let z = count_zero v w ws c in
        none_same ws (serve fx second w a) b t.1 z.1 (other_serve fx v second w a b t.0 hv z.0 s)

    pub once_same : (vs : List ℕ) (a b : Memory) → Turns vs a → count v vs ≡ 1 → Same fx.layout v a b
        → Same fx.layout v (serve_all fx second vs a) (serve fx second v b)
    unfolding serve_all count Turns
    once_same [] a b t c s = absurd (omega arith)
    once_same (w ∷ ws) a b t c s = go (once_same ws (serve fx second w a) b t.1) (count_one v w ws c)
      where
        go : (count v ws ≡ 1 → Same fx.layout v (serve fx second w a) b
            → Same fx.layout v (serve_all fx second ws (serve fx second w a)) (serve fx second v b))
            → Once v w ws → Same fx.layout v (serve_all fx second ws (serve fx second w a)) (serve fx second v b)
        go rest (inl z) =
            none_same ws (serve fx second w a) (serve fx second v b) t.1 z.1
            (subst (λ u. Same fx.layout v (serve fx second u a) (serve fx second v b)) (sym z.0)
            (same_serve fx v second a b (subst (λ u. Turn fx second u a) z.0 t.0) s))
        go rest (inr z) = rest z.1 (other_serve fx v second w a b t.0 hv z.0 s)

    none_number : (vs : List ℕ) (a : Memory) → count v vs ≡ 0 → number_in v (refusals_in fx second vs a) ≡ 0
    unfolding refusals_in number_in
    none_number [] a c = refl
    none_number (w ∷ ws) a c =
        let z = count_zero v w ws c in
        skip v w z.0 (number_of (answer fx second w a)) (refusals_in fx second ws (serve fx second w a))
        ∙ none_number ws (serve fx second w a) z.1

    pub once_number : (vs : List ℕ) (a b : Memory) → Turns vs a → count v vs ≡ 1 → Same fx.layout v a b
        → number_in v (refusals_in fx second vs a) ≡ number_of (answer fx second v b)
    unfolding refusals_in count Turns
    once_number [] a b t c s = absurd (omega arith)
    once_number (w ∷ ws) a b t c s = go (once_number ws (serve fx second w a) b t.1) (count_one v w ws c)
      where
        rest : ℕ → List Refusal
        rest u = refusals_in fx second ws (serve fx second u a)

        Done : ℕ → Type 0
        Done u = number_in v (noted u (number_of (answer fx second u a)) (rest u)) ≡ number_of (answer fx second v b)

        go : (count v ws ≡ 1 → Same fx.layout v (serve fx second w a) b → number_in v (rest w) ≡ number_of (answer fx second v b))
            → Once v w ws → Done w
        go ih (inl z) =
            subst Done (sym z.0)
            (found v (number_of (answer fx second v a)) (rest v) (none_number ws (serve fx second v a) z.1)
            ∙ ap number_of (same_answer fx v second a b s))
        go ih (inr z) =
            skip v w z.0 (number_of (answer fx second w a)) (rest w)
            ∙ ih z.1 (other_serve fx v second w a b t.0 hv z.0 s)

  -- ---- each voice once: those that still wait find what was theirs at first

  -- a is the memory of now, m that of the first turn
  abbrev pub Waiting : List ℕ → Memory → Memory → Type 0
  Waiting vs a m = (u : ℕ) → u < 24 → 0 < count u vs → Same fx.layout u a m

  pub all_waiting : (vs : List ℕ) (m : Memory) → Waiting vs m m
  all_waiting vs m u h c = same_refl fx.layout u m

  fewer_waiting : (w : ℕ) (ws : List ℕ) (a m : Memory) → Turn fx second w a → count w ws ≡ 0 → Waiting (w ∷ ws) a m
      → Waiting ws (serve fx second w a) m
  fewer_waiting w ws a m t c s u h p =
      other_serve fx u second w a m t h (stands_other u w ws c p) (s u h (stands_later u w ws p))

  -- so what each is given is as long as its places, if it would be so at first
  pub long_turns : (vs : List ℕ) (a m : Memory) → Fits fx (lengths a) → Below vs → Distinct vs → Long fx second m → Waiting vs a m
      → Turns vs a
  unfolding Turns
  long_turns [] a m f b d l s = tt
  long_turns (w ∷ ws) a m f b d l s =
      let q : Same fx.layout w a m = s w b.0 (stands_first w ws) in
      let t : Turn fx second w a = record {
        voice = b.0;
        fit = f;
        long =
            subst (λ n. LongAs (lane_length n) (answer fx second w a)) (sym q.lanes)
            (subst (LongAs (lane_length (length m.lanes))) (sym (same_answer fx w second a m q)) (l w b.0));
      } in (
        t,
        long_turns ws (serve fx second w a) m (subst (Fits fx) (sym (serve_lengths fx second w a)) f) b.1 d.1 l
            (fewer_waiting w ws a m t d.0 s),
      )

  -- and it would be so at first, if it is so in its turn
  pub turns_long : (vs : List ℕ) (a m : Memory) → Turns vs a → Distinct vs → Waiting vs a m → (v : ℕ) → v < 24 → 0 < count v vs
      → LongAs (lane_length (length m.lanes)) (answer fx second v m)
  unfolding Turns count
  turns_long [] a m t d s v h c = absurd (omega arith)
  turns_long (w ∷ ws) a m t d s v h c =
      go (turns_long ws (serve fx second w a) m t.1 d.1 (fewer_waiting w ws a m t.0 d.0 s) v h) (stands_in v w ws c)
    where
      Done : ℕ → Type 0
      Done u = LongAs (lane_length (length m.lanes)) (answer fx second u m)

      go : (0 < count v ws → Done v) → (w ≡ v) ⊎ (0 < count v ws) → Done v
      go later (inl e) =
          let q : Same fx.layout w a m = s w t.0.voice (stands_first w ws) in
          subst Done e
          (subst (λ n. LongAs (lane_length n) (answer fx second w m)) q.lanes
          (subst (LongAs (lane_length (length a.lanes))) (same_answer fx w second a m q) t.0.long))
      go later (inr p) = later p

  -- and the refused voices are those that would be refused at first
  pub refused_in_turn : (vs : List ℕ) (a m : Memory) → Turns vs a → Distinct vs → Waiting vs a m
      → refusals_in fx second vs a ≡ refused_of (λ u. number_of (answer fx second u m)) vs
  unfolding refusals_in refused_of Turns
  refused_in_turn [] a m t d s = refl
  refused_in_turn (w ∷ ws) a m t d s =
      ap₂ (λ x rs. noted w (number_of x) rs) (same_answer fx w second a m (s w t.0.voice (stands_first w ws)))
      (refused_in_turn ws (serve fx second w a) m t.1 d.1 (fewer_waiting w ws a m t.0 d.0 s))

  -- ---- the mixes

  -- what a voice adds is a signed 32-bit number
  answer_wrapped : (w : ℕ) (m : Memory) → w < 24 → Good fx m → (i : ℕ) (x : Answer) → answer fx second w m ≡ x
      → wrap32 (adds x i) ≡ adds x i
  unfolding adds
  answer_wrapped w m h g i (refused n) e = refl
  answer_wrapped w m h g i (served r) e = parts_wrap r.parts (given_kept fx second w m h g r e).parts_numbers i

  pub adds_wrapped : (w : ℕ) (m : Memory) → w < 24 → Good fx m → (i : ℕ)
      → wrap32 (adds (answer fx second w m) i) ≡ adds (answer fx second w m) i
  adds_wrapped w m h g i = answer_wrapped w m h g i (answer fx second w m) refl

  mixes_length : (vs : List ℕ) (m : Memory) (mixes : List ℤ) → length mixes ≡ 1920 → length (mixes_in fx second vs m mixes) ≡ 1920
  unfolding mixes_in
  mixes_length [] m mixes e = e
  mixes_length (w ∷ ws) m mixes e =
      mixes_length ws (serve fx second w m) (mixes_after (answer fx second w m) mixes) (mixed_length (answer fx second w m) mixes e)

  -- wrapped step by step, or once at the end
  mixes_at : (vs : List ℕ) (a m : Memory) → Turns vs a → Distinct vs → Waiting vs a m → (mixes : List ℤ) (i : ℕ) → i < 1920
      → wrap32 (get_or mixes i (pos 0)) ≡ get_or mixes i (pos 0)
      → get_or (mixes_in fx second vs a mixes) i (pos 0)
      ≡ wrap32 (get_or mixes i (pos 0) +ℤ sum (λ w. adds (answer fx second w m) i) vs)
  unfolding mixes_in sum Turns
  mixes_at [] a m t d s mixes i hi ok = sym (ap (λ (z : ℤ). wrap32 z) (+ℤ_idr (get_or mixes i (pos 0))) ∙ ok)
  mixes_at (w ∷ ws) a m t d s mixes i hi ok =
      let x : Answer = answer fx second w m in
      let old : ℤ = get_or mixes i (pos 0) in
      let others : ℤ = sum (λ u. adds (answer fx second u m) i) ws in
      let now : get_or (mixes_after (answer fx second w a) mixes) i (pos 0) ≡ wrap32 (old +ℤ adds x i) =
      mixed_at (answer fx second w a) mixes i hi ok
      ∙ ap (λ y. wrap32 (old +ℤ adds y i)) (same_answer fx w second a m (s w t.0.voice (stands_first w ws))) in
      mixes_at ws (serve fx second w a) m t.1 d.1 (fewer_waiting w ws a m t.0 d.0 s) (mixes_after (answer fx second w a) mixes)
      i hi (ap (λ (z : ℤ). wrap32 z) now ∙ wrap_again (old +ℤ adds x i) ∙ sym now)
      ∙ ap (λ (y : ℤ). wrap32 (y +ℤ others)) now
      ∙ wrap_left (old +ℤ adds x i) others
      ∙ ap (λ (z : ℤ). wrap32 z) (+ℤ_assoc old (adds x i) others)
    where
      wrap_again : (z : ℤ) → wrap32 (wrap32 z) ≡ wrap32 z
      wrap_again z =
          ap (λ (y : ℤ). wrap32 y) (sym (+ℤ_idr (wrap32 z))) ∙ wrap_left z (pos 0) ∙ ap (λ (y : ℤ). wrap32 y) (+ℤ_idr z)

  -- from no mixes on: as many as there are to be, each the sum of what the voices add
  pub sums_length : (vs : List ℕ) (m : Memory) → length (mixes_in fx second vs m no_mixes) ≡ 1920
  unfolding no_mixes
  sums_length vs m = mixes_length vs m no_mixes (length-replicate 1920 (pos 0))

  pub sums_at : (vs : List ℕ) (m : Memory) → Turns vs m → Distinct vs → (i : ℕ) → i < 1920
      → get_or (mixes_in fx second vs m no_mixes) i (pos 0) ≡ wrap32 (sum (λ w. adds (answer fx second w m) i) vs)
  unfolding no_mixes
  sums_at vs m t d i h =
      let none : get_or no_mixes i (pos 0) ≡ pos 0 = get_or-replicate 1920 i (pos 0) (pos 0) h in
      let all : ℤ = sum (λ w. adds (answer fx second w m) i) vs in
      mixes_at vs m m t d (all_waiting vs m) no_mixes i h (ap (λ (y : ℤ). wrap32 y) none ∙ sym none)
      ∙ ap (λ (y : ℤ). wrap32 (y +ℤ all)) none ∙ ap (λ (y : ℤ). wrap32 y) (+ℤ_idl all)
