use Rattle.std.proofs.Common.{◌≡◌, ◌<◌, ℕ, zero, suc, Ok, length, ◌-◌, ◌∙◌, inl, sym, rules, arith}
use Rattle.list_core.specs.Device.{ending_after}
use Rattle.list_core.specs.declared.device.DeviceFault.{DeviceFault}
use Rattle.list_core.specs.declared.device.InputEnd.{InputEnd}
use Rattle.list_core.specs.declared.device.InputEnd.TheVariants.{Open}
use Rattle.list_core.proofs.Devices.{Consumes-append}
use Rattle.list_core.proofs.Readers.{OnlyOpen-append}
use Rattle.capture_core.proofs.Filled.{take-put_mid}
use Rattle.capture_core.proofs.filling.fill_by_reads.Goals as goal

-- a read that gave octets leaves the source open
still_open : (w : InputEnd) (n : ℕ) → w ≡ ending_after {E = DeviceFault} (Ok n) → 0 < n → w ≡ Open
still_open w zero e h = absurd (omega arith)
still_open w (suc n) e h = e

pub reads-preserved : goal.reads-preserved
reads-preserved g c =
    let front = take-put_mid c.reads.into c.read_some.new.into c.reads.count (length c.reads.into - c.reads.count) c.in-Ok.more c.reads.invariant.within c.in-Ok.ensures.count in
    record {
      within = search rules;
      took = rw front (Consumes-append _ _ _ _ _ c.reads.invariant.took c.in-Ok.ensures.given);
      only_open = rw front (OnlyOpen-append _ _ _ _ _ c.reads.invariant.only_open (inl (sym c.in-Open.ensures)));
      same = still_open _ c.in-Ok.more c.in-Ok.ensures.ending (omega arith) ∙ c.in-Open.ensures ∙ c.reads.invariant.same;
    }
