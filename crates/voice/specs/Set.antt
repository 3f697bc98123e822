-- Made by tools/setters: for each field, the record with another value there. Assumes nothing: these are definitions.
use Rattle.std.specs.Prelude.{ℕ, Bool, List, Float, ℤ}
use Rattle.adpcm.specs.declared.History.{History}
use Rattle.filters.specs.declared.state.Filters.{Filters}
use Rattle.voice.specs.declared.record.Entry.{Entry}
use Rattle.voice.specs.declared.record.Format.{Format}
use Rattle.voice.specs.declared.record.Interpolation.{Interpolation}
use Rattle.voice.specs.declared.record.Voice.{Voice}

abbrev pub set_entry_address : ℕ → Entry → Entry
set_entry_address x v = record v { address = x }

abbrev pub set_entry_length : ℕ → Entry → Entry
set_entry_length x v = record v { length = x }

abbrev pub set_entry_play_position : ℕ → Entry → Entry
set_entry_play_position x v = record v { play_position = x }

abbrev pub set_entry_adpcm : History → Entry → Entry
set_entry_adpcm x v = record v { adpcm = x }

abbrev pub set_entry_id : ℕ → Entry → Entry
set_entry_id x v = record v { id = x }

abbrev pub set_entry_format : Format → Entry → Entry
set_entry_format x v = record v { format = x }

abbrev pub set_entry_stereo : Bool → Entry → Entry
set_entry_stereo x v = record v { stereo = x }

abbrev pub set_entry_looping : Bool → Entry → Entry
set_entry_looping x v = record v { looping = x }

abbrev pub set_entry_has_adpcm : Bool → Entry → Entry
set_entry_has_adpcm x v = record v { has_adpcm = x }

abbrev pub set_entry_from_queue : Bool → Entry → Entry
set_entry_from_queue x v = record v { from_queue = x }

abbrev pub set_entry_has_played : Bool → Entry → Entry
set_entry_has_played x v = record v { has_played = x }

abbrev pub set_voice_enabled : Bool → Voice → Voice
set_voice_enabled x v = record v { enabled = x }

abbrev pub set_voice_sync_count : ℕ → Voice → Voice
set_voice_sync_count x v = record v { sync_count = x }

abbrev pub set_voice_rate : Float → Voice → Voice
set_voice_rate x v = record v { rate = x }

abbrev pub set_voice_format : Format → Voice → Voice
set_voice_format x v = record v { format = x }

abbrev pub set_voice_interpolation : Interpolation → Voice → Voice
set_voice_interpolation x v = record v { interpolation = x }

abbrev pub set_voice_stereo : Bool → Voice → Voice
set_voice_stereo x v = record v { stereo = x }

abbrev pub set_voice_filters : Filters → Voice → Voice
set_voice_filters x v = record v { filters = x }

abbrev pub set_voice_gain : List Float → Voice → Voice
set_voice_gain x v = record v { gain = x }

abbrev pub set_voice_has_ramp : List Bool → Voice → Voice
set_voice_has_ramp x v = record v { has_ramp = x }

abbrev pub set_voice_ramp : List Float → Voice → Voice
set_voice_ramp x v = record v { ramp = x }

abbrev pub set_voice_coefficients : List ℤ → Voice → Voice
set_voice_coefficients x v = record v { coefficients = x }

abbrev pub set_voice_history : History → Voice → Voice
set_voice_history x v = record v { history = x }

abbrev pub set_voice_queue : List Entry → Voice → Voice
set_voice_queue x v = record v { queue = x }

abbrev pub set_voice_queued : ℕ → Voice → Voice
set_voice_queued x v = record v { queued = x }

abbrev pub set_voice_has_playing : Bool → Voice → Voice
set_voice_has_playing x v = record v { has_playing = x }

abbrev pub set_voice_playing : Entry → Voice → Voice
set_voice_playing x v = record v { playing = x }

abbrev pub set_voice_decoded : ℕ → Voice → Voice
set_voice_decoded x v = record v { decoded = x }

abbrev pub set_voice_remaining : ℕ → Voice → Voice
set_voice_remaining x v = record v { remaining = x }

abbrev pub set_voice_length : ℕ → Voice → Voice
set_voice_length x v = record v { length = x }

abbrev pub set_voice_fraction : Float → Voice → Voice
set_voice_fraction x v = record v { fraction = x }

abbrev pub set_voice_current_buffer_id : ℕ → Voice → Voice
set_voice_current_buffer_id x v = record v { current_buffer_id = x }

abbrev pub set_voice_last_buffer_id : ℕ → Voice → Voice
set_voice_last_buffer_id x v = record v { last_buffer_id = x }

abbrev pub set_voice_buffer_update : Bool → Voice → Voice
set_voice_buffer_update x v = record v { buffer_update = x }

abbrev pub set_voice_position : ℕ → Voice → Voice
set_voice_position x v = record v { position = x }

abbrev pub set_voice_frame : List ℤ → Voice → Voice
set_voice_frame x v = record v { frame = x }

abbrev pub set_voice_ran_out_at_frame_end : Bool → Voice → Voice
set_voice_ran_out_at_frame_end x v = record v { ran_out_at_frame_end = x }
