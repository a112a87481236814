use Rattle.std.proofs.Common.{◌<◌, [], List, Option}
use Rattle.std.specs.Prelude.{IfSome}
use Rattle.subscribe_core.specs.declared.entry.Entry.{Entry}
use Rattle.subscribe_core.specs.declared.registers.LiveState.{LiveState}
use Rattle.subscribe_core.specs.computed.Deadlines.{KeepsDeadlinesOf, half}
use Rattle.subscribe_core.proofs.Listing.{AreListed}
use Rattle.subscribe_core.proofs.Nodes.{to_go}
use Rattle.subscribe_core.proofs.deadlines.Deadlines.list_due.Given as goal

-- an entry for each block that is due before the next one
abbrev pub invariant-loop-next : goal.invariant-loop-next
invariant-loop-next g l =
    record {
      within : IfSome l.next (λ at. at < half l.self.nodes.items);
      grown : g.E.EntrySink.grows l.initial.entries l.entries;
      listed : (es : List (Entry g.row.A.Denot)) × g.E.EntrySink.gets l.initial.entries es l.entries
          × ((held : List (Option LiveState)) → KeepsDeadlinesOf l.self held → AreListed _ l.now (half l.self.nodes.items) held es l.next []);
    }

abbrev pub decreases-loop-next : goal.decreases-loop-next
decreases-loop-next g l = to_go (half l.self.nodes.items) l.next
