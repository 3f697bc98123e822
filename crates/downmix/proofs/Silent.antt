-- A mix at a volume that equals 0.0 adds nothing: each part is 0, and 0 added to a sample leaves it. Assumes nothing.
use mathlib.Core.Path.{◌≡◌, refl, sym, ap, ◌∙◌}
use mathlib.Core.Bool.{true, false}
use mathlib.Core.List.{List}
use Prim.Native.Nat.{ℕ, ◌*◌, ◌^◌, ◌≤◌, ◌<◌}
use native.Mathlib.Omega.{arith}
use lib.Dec.{lit<}
use lib.IntN.{ℤ, pos, negsuc, nat_abs, +ℤ_idr}
use lib.ListN.{length, get_or}
use lib.Signed.{mag, lt_z}
use borrow.Author.Tests.{le-ltb}
use lib.Ieee.{Float, nan, inf, fin, binary32, add, div, eq, of_int, up, down, unlike}
use lib.Ieee.Fits.{down_pos}
use Rattle.lists.proofs.Tabulate.{tabulated}
use Rattle.numbers.specs.Casts.{cast_i32, single}
use Rattle.numbers.specs.Literals.{+0}
use Rattle.numbers.specs.Wrap.{clamp16}
use Rattle.numbers.proofs.Reach.{Reach, zero_reach, single_reach, mul_reach, add_reach, round_reach, cast_reach, only_zero}
use Rattle.downmix.specs.Downmix.{at_volume, mono_part, stereo_part, added, part_at, mixed_in}
use Rattle.mixer_state.specs.declared.Output.{Output}
use Rattle.mixer_state.specs.declared.Output.TheVariants.{Mono, Stereo}

abs_of : (z : ℤ) → mag z < 2147483648 → nat_abs z ≤ 2147483648
abs_of (pos n) h = omega arith
abs_of (negsuc n) h = omega arith

at_silent : (v : Float) (m : ℤ) → Reach v 0 → mag m < 2147483648 → Reach (at_volume v m) 0
at_silent v m w h = mul_reach binary32 (single m) v (2 ^ 31) 0 (single_reach m (abs_of m h)) w (lit< tt)

clamped : (x : Float) → Reach x 0 → clamp16 (cast_i32 x) ≡ pos 0
clamped x w = ap (λ (z : ℤ). clamp16 z) (only_zero (cast_i32 x) (cast_reach 31 x 0 w))

stereo_silent : (v : Float) (a c : ℤ) → Reach v 0 → mag a < 2147483648 → mag c < 2147483648 → stereo_part v a c ≡ pos 0
unfolding stereo_part
stereo_silent v a c w p q =
    clamped _ (add_reach binary32 (at_volume v a) (at_volume v c) 0 0 (at_silent v a w p) (at_silent v c w q) (lit< tt))

two_is : single (pos 2) ≡ fin false 1 (pos 1)
unfolding of_int
two_is = refl

half_zero : (x : Float) → Reach x 0 → Reach (div binary32 x (fin false 1 (pos 1))) 0
unfolding div
half_zero nan w = absurd w
half_zero (inf s) w = absurd w
half_zero (fin s m e) w =
    round_reach binary32 (unlike s false) (m * up e * 1) (1 * 2 * down e) 0 (some (down e) (down_pos e)) (tidy (m * up e) (down e) w)
    (lit< tt)
  where
    some : (d : ℕ) → 0 < d → 0 < 1 * 2 * d
    some d h = omega arith

    tidy : (n d : ℕ) → n ≤ 0 * d → n * 1 ≤ 0 * (1 * 2 * d)
    tidy n d h = omega arith

mono_silent :
    (v : Float) (a b c d : ℤ) → Reach v 0 → mag a < 2147483648 → mag b < 2147483648 → mag c < 2147483648 → mag d < 2147483648
    → mono_part v a b c d ≡ pos 0
unfolding mono_part
mono_silent v a b c d w p q r s =
    let two = add binary32 (at_volume v a) (at_volume v b) in
    let x = add_reach binary32 (at_volume v a) (at_volume v b) 0 0 (at_silent v a w p) (at_silent v b w q) (lit< tt) in
    let y = add_reach binary32 two (at_volume v c) 0 0 x (at_silent v c w r) (lit< tt) in
    let z = add_reach binary32 (add binary32 two (at_volume v c)) (at_volume v d) 0 0 y (at_silent v d w s) (lit< tt) in
    rw two_is (clamped _ (half_zero _ z))

added_zero : (o : ℤ) → mag o < 32768 → added o (pos 0) ≡ o
unfolding added
added_zero o h = rw (+ℤ_idr o, not_below o h, not_above o h)
  where
    not_below : (o : ℤ) → mag o < 32768 → lt_z o (negsuc 32767) ≡ false
    not_below (pos n) h = refl
    not_below (negsuc n) h = le-ltb 32767 n (omega arith)

    not_above : (o : ℤ) → mag o < 32768 → lt_z (pos 32767) o ≡ false
    not_above (pos n) h = le-ltb 32767 n (omega arith)
    not_above (negsuc n) h = refl

part_silent :
    (o : Output) (v : Float) (mix : List ℤ) → Reach v 0 → ((k : ℕ) → mag (get_or mix k (pos 0)) < 2147483648)
    → (k : ℕ) → part_at o v mix k ≡ pos 0
part_silent Mono v mix w m k = mono_silent v _ _ _ _ w (m _) (m _) (m _) (m _)
part_silent Stereo v mix w m k = stereo_silent v _ _ w (m _) (m _)

pub silent :
    (o : Output) (v : Float) (mix frame : List ℤ) → eq v +0 ≡ true → length frame ≡ 320
    → ((k : ℕ) → mag (get_or frame k (pos 0)) < 32768) → ((k : ℕ) → mag (get_or mix k (pos 0)) < 2147483648)
    → frame ≡ mixed_in o v mix frame
unfolding mixed_in
silent o v mix frame z long f m =
    tabulated frame (λ k. added (get_or frame k (pos 0)) (part_at o v mix k)) 320 (pos 0) long
    (λ k h. sym (ap (added (get_or frame k (pos 0))) (part_silent o v mix (zero_reach v z) m k)
    ∙ added_zero (get_or frame k (pos 0)) (f k)))
