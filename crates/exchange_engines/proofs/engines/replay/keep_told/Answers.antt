use Rattle.std.proofs.Common.{◌≡◌, Bool, subst, sym, rules}
use Rattle.std.proofs.lemmas.Fn.{filter_same}
use Rattle.subscribe_core.specs.Changes.{is_change}
use Rattle.exchange_engines.specs.ReplayText.{told_of}
use Rattle.exchange_engines.proofs.engines.replay.keep_told.Goals as goal

pub returns-then-changes_alone-clause-told : goal.returns-then-changes_alone-clause-told
returns-then-changes_alone-clause-told g c =
    subst (λ (alone : Bool). c.retain.new.self.items ≡ told_of alone c.args.entries.now.items) (sym c.if-changes_alone.true)
    (filter_same _ is_change _ (λ x b f' k. search rules) _ _ c.retain.ensures.filtered)
