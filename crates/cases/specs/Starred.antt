-- The starred cases of document 01, "Checked by hand", in its order, and the claim that the definitions agree with every one.
-- `proofs/Starred.antt` proves the claim. A case is an input with its outcome; another kind of case is one constructor and one line of
-- `Agrees` more. Assumes nothing.
use Rattle.std.specs.Prelude.{ℕ, ◌-◌, ◌≡◌, false, List, [], ◌∷◌, ◌++◌, map, length, replicate, Float, ℤ, pos, negsuc, Some}
use Rattle.std.specs.Float.{fin}
use Rattle.numbers.specs.Casts.{single}
use Rattle.mixing.specs.Interpolate.{interpolate}
use Rattle.region.specs.Choice.{chosen}
use Rattle.little.specs.Little.{at_dsp32, dsp32_bytes}
use Rattle.adpcm.specs.declared.History.{History}
use Rattle.adpcm.specs.Code.{decoded_samples, decoded_history}
use Rattle.adpcm.specs.Adpcm.{sample_of}
use Rattle.adpcm.specs.Public.{public_samples}
use Rattle.voice.specs.Blank.{places, blank_entry, default_voice}
use Rattle.voice.specs.Malformed.{queued_in}
use Rattle.voice.specs.Set.{set_entry_id, set_voice_queue, set_voice_queued}
use Rattle.voice.specs.declared.record.Voice.{Voice}
use Rattle.queue.specs.Removal.{removed}
use Rattle.queue.specs.Search.{searched}

abbrev history : ℤ → ℤ → History
history yn1 yn2 = record { yn1 = yn1; yn2 = yn2 }

-- floats: 0.5, 1.5 and 16777216
abbrev half : Float
half = fin false 1 (negsuc 0)

abbrev one_and_a_half : Float
one_and_a_half = fin false 3 (negsuc 0)

abbrev 2^24 : Float
2^24 = fin false 1 (pos 24)

-- a voice whose queue holds entries of these ids, which are otherwise blank, and blanks past them
abbrev voice_of : List ℕ → Voice
voice_of ids =
    set_voice_queued (length ids)
    (set_voice_queue (map (λ id. set_entry_id id blank_entry) ids ++ replicate (places - length ids) blank_entry) default_voice)

pub data Case : Type 0 where
  -- two counters, and the region chosen
  counters : (first second region : ℕ) → Case
  -- four bytes, and the dsp32 that they mean
  dsp32 : (bytes : List ℕ) (value : ℕ) → Case
  -- coefficients, history, bytes and count, and the samples and the history after them
  decode : (coefficients : List ℤ) (h : History) (bytes : List ℕ) (count : ℕ) (samples : List ℤ) (last : History) → Case
  -- coefficients, history and a frame, its first sample, and that of the public description, which does not wrap
  step : (coefficients : List ℤ) (h : History) (frame : List ℕ) (sample published : ℤ) → Case
  -- two samples and a fraction of the way, and the sample there
  between : (a b : ℤ) (fraction : Float) (sample : ℤ) → Case
  -- the ids of a queue, the place that its search finds, and the ids after the entry there was removed
  queued : (ids : List ℕ) (place : ℕ) (left : List ℕ) → Case
  -- a whole number, and the float it is rounded to
  rounded : (n : ℤ) (x : Float) → Case

-- the definitions give the case's outcome
abbrev pub Agrees : Case → Type 0
Agrees (counters first second region) = chosen first second ≡ region
Agrees (dsp32 bytes value) = (at_dsp32 bytes 0 ≡ value) × (dsp32_bytes value ≡ bytes)
Agrees (decode coefficients h bytes count samples last) =
    (decoded_samples sample_of coefficients h bytes count ≡ samples) × (decoded_history sample_of coefficients h bytes count ≡ last)
Agrees (step coefficients h frame sample published) =
    (decoded_samples sample_of coefficients h frame 1 ≡ sample ∷ []) × (public_samples coefficients h frame 1 ≡ published ∷ [])
Agrees (between a b fraction sample) = interpolate a b fraction ≡ sample
Agrees (queued ids place left) =
    (searched (voice_of ids).queue (voice_of ids).queued ≡ Some place) × (map (λ e. e.id) (queued_in (removed place (voice_of ids))) ≡ left)
Agrees (rounded n x) = single n ≡ x

abbrev pub starred : List Case
starred =
    counters 1 1 1
    ∷ counters 2 1 0
    ∷ counters 65535 65534 0
    ∷ counters 65535 0 1
    ∷ counters 0 65535 0
    ∷ counters 65534 65535 1
    ∷ dsp32 (1 ∷ 0 ∷ 69 ∷ 35 ∷ []) 74565
    ∷ decode (replicate 16 (pos 0)) (history (pos 0) (pos 0)) (0 ∷ 31 ∷ 112 ∷ replicate 5 0) 3 (pos 1 ∷ negsuc 0 ∷ pos 7 ∷ [])
    (history (pos 7) (negsuc 0))
    ∷ step (replicate 16 (negsuc 32767)) (history (negsuc 32767) (negsuc 32767)) (replicate 8 0) (negsuc 32767) (pos 32767)
    ∷ step (replicate 16 (pos 0)) (history (pos 0) (pos 0)) (15 ∷ 128 ∷ replicate 6 0) (negsuc 32767) (negsuc 32767)
    ∷ between (pos 0) (negsuc 2) half (negsuc 0)
    ∷ between (pos 0) (pos 100) one_and_a_half (pos 150)
    ∷ queued (7 ∷ 3 ∷ 3 ∷ []) 1 (7 ∷ 3 ∷ [])
    ∷ rounded (pos 16777217) 2^24
    ∷ []

-- every case of a list
abbrev pub All : List Case → Type 0
All [] = Unit
All (c ∷ cs) = Agrees c × All cs

pub record StarredCasesHold : Type 0 where
  pub holds : All starred
