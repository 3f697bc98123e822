-- What entries queued one behind the other come to, an entry more. Assumes nothing.
use Rattle.std.proofs.Common.{◌≡◌, ℕ, ◌+◌, ◌<◌, List, [], ◌∷◌, ◌++◌, length, take, get_or, refl, sym, ap, ◌∙◌}
use Rattle.std.proofs.lemmas.List.{take_more}
use Rattle.voice.specs.declared.record.Entry.{Entry}
use Rattle.voice.specs.declared.record.Voice.{Voice}
use Rattle.queueing.specs.Queue.{pushed, pushed_all}

pub pushed_none : (v : Voice) → pushed_all [] v ≡ v
unfolding pushed_all
pushed_none v = refl

pushed_last : (xs : List Entry) (e : Entry) (v : Voice) → pushed_all (xs ++ (e ∷ [])) v ≡ pushed e (pushed_all xs v)
unfolding pushed_all
pushed_last [] e v = refl
pushed_last (x ∷ xs) e v = pushed_last xs e (pushed x v)

-- a turn of a loop: w is the record at its head
pub pushed_more :
    (es : List Entry) (i : ℕ) (d : Entry) (v w : Voice) → i < length es → w ≡ pushed_all (take i es) v
    → pushed (get_or es i d) w ≡ pushed_all (take (i + 1) es) v
pushed_more es i d v w h e =
    ap (pushed (get_or es i d)) e ∙ sym (pushed_last (take i es) (get_or es i d) v)
    ∙ ap (λ (x : List Entry). pushed_all x v) (sym (take_more es i d h))
