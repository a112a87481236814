use Rattle.std.proofs.Common.{◌≡◌, ℕ, List, refl, rules, subst, true}
use Rattle.repeat_core.specs.Alike.{AreAlike}
use Rattle.repeat_core.proofs.BesideFrames.{noted_again}
use Rattle.repeat_core.proofs.ShownAgain.{shown_again}
use Rattle.repeat_core.proofs.WrittenWhole.{written_again}
use Rattle.repeat_core.proofs.held.Held.numbers.Goals as goal

pub returns : goal.returns
returns g c =
    let held = c.args.self.now in
    let good : held.good ≡ true = search rules in
    let same = subst (λ (h : List ℕ). AreAlike h c.args.octets.now held.notes) c.as_slice.ensures.value (c.if-not-are_alike.ensures refl) in
    let shown = shown_again held.octets.items c.args.octets.now held.notes c.in_ok-live.live c.in_ok-sq_num.sq_num same (held.placed good) (held.known good) c.in_ok-live.ensures c.in_ok-sq_num.ensures in
    record {
      good = good;
      shown = record {
        shows = shown;
        says_live = c.in_ok-live.ensures;
        says_sq_num = c.in_ok-sq_num.ensures;
        around = λ told. written_again held.octets.items c.args.octets.now held.notes same (held.placed good) (held.around good told);
      };
      same = noted_again held.octets.items c.args.octets.now held.notes same (held.placed good) shown.envelope.place_is 0 0;
    }
