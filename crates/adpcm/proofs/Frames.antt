-- The loop over frames: what is made so far, and that the rest of the decode goes on from there. A turn takes one frame off the front.
-- Assumes nothing.
use mathlib.Core.Path.{◌≡◌, sym, ap, ◌∙◌, subst}
use mathlib.Core.List.{List, ◌++◌, append_assoc}
use Prim.Native.Nat.{ℕ, zero, suc, min, ◌+◌, ◌-◌, ◌*◌, ◌≤◌, ◌<◌}
use native.Mathlib.Nat.{add_comm, le_of_suc-le-suc, not-suc-le-zero, suc-mul, zero-mul}
use native.Mathlib.Omega.{arith}
use lib.IntN.{ℤ}
use lib.ListN.{length, take, drop, get_or, length-append, length-drop}
use lib.Seq.{length-take-le, take_at, drop_at, drop-drop}
use Rattle.std.specs.Simd.{first_chunks}
use Rattle.adpcm.specs.declared.History.{History}
use Rattle.adpcm.specs.Code.{frame_codes, frames_of, samples_of, history_after, decoded_samples, decoded_history}
use Rattle.adpcm.specs.Adpcm.{sample_of}
use Rattle.adpcm.proofs.Codes.{frame_long, taken_long, length_samples, samples_off, history_off}

-- the samples of a frame's first n codes, and the history after them
abbrev frame_samples : List ℤ → History → List ℕ → ℕ → List ℤ
frame_samples cs h frame n = samples_of sample_of h (take n (frame_codes cs frame))

abbrev frame_history : List ℤ → History → List ℕ → ℕ → History
frame_history cs h frame n = history_after sample_of h (take n (frame_codes cs frame))

-- the head of the loop: what `made` has is that of the first i frames, the rest of `out` is as it was
pub record Done (cs : List ℤ) (h : History) (bytes : List ℕ) (count : ℕ) (old out : List ℤ) (last : History) (i : ℕ) : Type 0 where
  pub made : List ℤ
  pub out_is : out ≡ made ++ drop (min (i * 14) count) old
  pub long : length made ≡ min (i * 14) count
  pub left : i * 8 + frames_of (count - i * 14) * 8 ≡ length bytes
  pub whole : decoded_samples sample_of cs h bytes count ≡ made ++ decoded_samples sample_of cs last (drop (i * 8) bytes) (count - i * 14)
  pub history : decoded_history sample_of cs h bytes count ≡ decoded_history sample_of cs last (drop (i * 8) bytes) (count - i * 14)

-- a frame among the arrays that bytes are taken as
pub chunk_at : {A : Type 0} (n k i : ℕ) (xs : List A) (d : List A) → i < k → get_or (first_chunks n k xs) i d ≡ take n (drop (i * n) xs)
chunk_at n zero i xs d h = absurd (not-suc-le-zero h)
chunk_at n (suc k) zero xs d h = ap (λ (m : ℕ). take n (drop m xs)) (sym (zero-mul n))
chunk_at n (suc k) (suc i) xs d h =
    chunk_at n k i (drop n xs) d (le_of_suc-le-suc h) ∙ ap (take n) (drop-drop (i * n) n xs ∙ ap (λ (m : ℕ). drop m xs) next)
  where
    next : n + i * n ≡ suc i * n
    next = add_comm n (i * n) ∙ sym (suc-mul i n)

module _ (cs : List ℤ) (h : History) (bytes : List ℕ) (count : ℕ) (old : List ℤ) where
  -- a turn: the frame at hand was decoded into its part of the output
  turn : (out : List ℤ) (last : History) (i : ℕ) → Done cs h bytes count old out last i → i * 14 < count
      → (frame : List ℕ) → frame ≡ take 8 (drop (i * 8) bytes) → (n : ℕ) → n ≡ min 14 (count - i * 14)
      → Done cs h bytes count old (take (i * 14) out ++ (frame_samples cs last frame n ++ drop n (drop (i * 14) out)))
      (frame_history cs last frame n) (i + 1)
  turn out last i d k frame fe n ne = record {
    made = d.made ++ frame_samples cs last frame n;
    out_is =
        (λ j. before j ++ (frame_samples cs last frame n ++ drop n (after j)))
        ∙ ap (λ (r : List ℤ). d.made ++ (frame_samples cs last frame n ++ r)) (drop-drop n (i * 14) old ∙ ap (λ (m : ℕ). drop m old) to)
        ∙ sym (append_assoc d.made (frame_samples cs last frame n) (drop (min ((i + 1) * 14) count) old));
    long = length-append d.made (frame_samples cs last frame n) ∙ (λ j. (d.long ∙ done) j + frame_made j) ∙ to;
    left = omega (arith, d.left);
    whole =
        d.whole ∙ ap (λ (r : List ℤ). d.made ++ r)
        (samples_off sample_of cs last (drop (i * 8) bytes) (count - i * 14) (omega arith) eight_left ∙ rest_samples)
        ∙ sym (append_assoc d.made (frame_samples cs last frame n)
        (decoded_samples sample_of cs (frame_history cs last frame n) (drop ((i + 1) * 8) bytes) (count - (i + 1) * 14)));
    history = d.history ∙ history_off sample_of cs last (drop (i * 8) bytes) (count - i * 14) (omega arith) eight_left ∙ rest_history;
  }
    where
      done : min (i * 14) count ≡ i * 14
      done = omega arith

      to : i * 14 + n ≡ min ((i + 1) * 14) count
      to = omega arith

      before : take (i * 14) out ≡ d.made
      before = ap (take (i * 14)) d.out_is ∙ take_at d.made (drop (min (i * 14) count) old) (i * 14) (d.long ∙ done)

      after : drop (i * 14) out ≡ drop (i * 14) old
      after =
          ap (drop (i * 14)) d.out_is ∙ drop_at d.made (drop (min (i * 14) count) old) (i * 14) (d.long ∙ done)
          ∙ ap (λ (m : ℕ). drop m old) done

      eight_left : 8 ≤ length (drop (i * 8) bytes)
      eight_left = simp length-drop (omega (arith, d.left))

      eight : length frame ≡ 8
      eight = ap length fe ∙ length-take-le 8 (drop (i * 8) bytes) eight_left

      frame_made : length (frame_samples cs last frame n) ≡ n
      frame_made =
          length_samples sample_of last (take n (frame_codes cs frame))
          ∙ taken_long (frame_codes cs frame) n (frame_long cs frame eight) (omega arith)

      off : count - i * 14 - 14 ≡ count - (i + 1) * 14
      off = omega arith

      on : drop 8 (drop (i * 8) bytes) ≡ drop ((i + 1) * 8) bytes
      on = drop-drop 8 (i * 8) bytes ∙ ap (λ (m : ℕ). drop m bytes) next
        where
          next : i * 8 + 8 ≡ (i + 1) * 8
          next = omega arith

      rest_samples :
          frame_samples cs last (take 8 (drop (i * 8) bytes)) (min 14 (count - i * 14)) ++ decoded_samples sample_of cs
          (frame_history cs last (take 8 (drop (i * 8) bytes)) (min 14 (count - i * 14))) (drop 8 (drop (i * 8) bytes))
          (count - i * 14 - 14)
          ≡ frame_samples cs last frame n ++ decoded_samples sample_of cs (frame_history cs last frame n) (drop ((i + 1) * 8) bytes)
          (count - (i + 1) * 14)
      rest_samples =
          λ j. frame_samples cs last (sym fe j) (sym ne j) ++ decoded_samples sample_of cs (frame_history cs last (sym fe j) (sym ne j))
          (on j) (off j)

      rest_history :
          decoded_history sample_of cs (frame_history cs last (take 8 (drop (i * 8) bytes)) (min 14 (count - i * 14)))
          (drop 8 (drop (i * 8) bytes)) (count - i * 14 - 14)
          ≡ decoded_history sample_of cs (frame_history cs last frame n) (drop ((i + 1) * 8) bytes) (count - (i + 1) * 14)
      rest_history = λ j. decoded_history sample_of cs (frame_history cs last (sym fe j) (sym ne j)) (on j) (off j)

  -- the same, in what a call of the frame step on a frame and a part leaves
  pub turn_called :
      (out : List ℤ) (last : History) (i : ℕ) → Done cs h bytes count old out last i → i * 14 < count
      → (frame : List ℕ) → frame ≡ take 8 (drop (i * 8) bytes) → (p k : ℕ) → p ≡ min 14 (count - i * 14) → k ≡ min 14 (count - i * 14)
      → (ys : List ℤ) → ys ≡ frame_samples cs last frame p → (new : History) → new ≡ frame_history cs last frame p
      → Done cs h bytes count old (take (i * 14) out ++ (ys ++ drop k (drop (i * 14) out))) new (i + 1)
  turn_called out last i d l frame fe p k pe ke ys ye new we =
      subst (λ (s : History). Done cs h bytes count old (take (i * 14) out ++ (ys ++ drop k (drop (i * 14) out))) s (i + 1)) (sym we)
      (subst (λ (o : List ℤ). Done cs h bytes count old o (frame_history cs last frame p) (i + 1))
      (λ j. take (i * 14) out ++ (sym ye j ++ drop ((pe ∙ sym ke) j) (drop (i * 14) out)))
      (turn out last i d l frame fe p pe))
