-- Frames whose written form has another count of octets than they have, which repeat.
use Rattle.std.specs.Prelude.{◌≡◌, ◌≢◌, ℕ, pos, length}
use Rattle.ber_core.specs.Written.{integer_size}
use Rattle.frame_core.specs.Written.{written_frame}
use Rattle.frame_core.specs.declared.frame.Frame.{Frame}
use Rattle.repeat_core.specs.Numbered.{frame_numbered}
use Rattle.repeat_core.specs.declared.other_form.OtherForm.{OtherForm}

-- the written form of a frame that is this one but for its numbers has another count of octets, where they have the sizes that are noted
abbrev pub HasOtherForm : {A : Type 0} → OtherForm → Frame A → Type 0
HasOtherForm k f = (live sq_num : ℕ) → integer_size (pos live) ≡ k.live_size → integer_size (pos sq_num) ≡ k.sq_num_size → length (written_frame (frame_numbered live sq_num f)) ≢ k.count
