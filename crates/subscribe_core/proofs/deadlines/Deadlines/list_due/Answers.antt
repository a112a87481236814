use Rattle.std.proofs.Common.{ℕ, ◌<◌, [], ◌∷◌, ◌++◌, List, Option, arith, refl, subst}
use Rattle.std.specs.Prelude.{IfSome}
use Rattle.subscribe_core.specs.declared.entry.Entry.{Entry}
use Rattle.subscribe_core.specs.declared.entry.Entry.TheVariants as says
use Rattle.subscribe_core.specs.computed.Deadlines.{half, helds}
use Rattle.subscribe_core.proofs.Due.{positions_none}
use Rattle.subscribe_core.proofs.Listing.{listed_all, listed_first, listed_more, listed_none}
use Rattle.subscribe_core.proofs.Nodes.{first_onward, next_onward, next_in_nodes, to_go_less}
use Rattle.subscribe_core.proofs.deadlines.Deadlines.list_due.Goals as goal

pub loop-next-init : goal.loop-next-init
loop-next-init g c =
    let d = c.args.self.now in
    let first = c.first_due-next.ensures in
    record {
      within = next_in_nodes d.nodes.items c.args.now 0 c.first_due-next.result first.found;
      grown = g.met.E.EntrySink.grows_none _;
      listed = (
        [],
        g.met.E.EntrySink.gets_none _,
        λ held keeps. listed_first _ c.args.now (half d.nodes.items) held c.first_due-next.result [] (first_onward d held c.args.now c.first_due-next.result keeps c.ranges.now.fits first.found first.none),
      );
    }

pub next_due-next-requires : goal.next_due-next-requires
next_due-next-requires g c =
    record {
      within = subst (λ (o : Option ℕ). IfSome o (λ at. at < half c.args.self.now.nodes.items)) c.in-Some.is c.loop-next.invariant.within;
      tree = c.requires.tree;
    }

pub loop-next-preserved : goal.loop-next-preserved
loop-next-preserved g c =
    let d = c.args.self.now in
    let at = c.in-Some.at in
    let next = c.next_due-next.ensures in
    let so = c.loop-next.invariant.listed in
    let more : List (Entry g.row.A.Denot) = so.0 ++ says.Expired at ∷ [] in
    record {
      within = next_in_nodes d.nodes.items c.args.now _ c.next_due-next.result next.found;
      grown = g.met.E.EntrySink.grows_more _ _ _ c.loop-next.invariant.grown c.put_entry.ensures.grown;
      listed = (
        more,
        g.met.E.EntrySink.gets_more _ _ _ _ _ so.1 c.in_ok-put_entry.ensures.got,
        λ held keeps.
            listed_more _ c.args.now (half d.nodes.items) at held c.loop-next.next c.next_due-next.result [] so.0 more c.in-Some.is refl
            (next_onward d held c.args.now at c.next_due-next.result keeps c.ranges.now.fits next.found next.none) (so.2 held keeps),
      );
    }

pub loop-next-smaller : goal.loop-next-smaller
loop-next-smaller g c =
    let d = c.args.self.now in
    let within = subst (λ (o : Option ℕ). IfSome o (λ at. at < half d.nodes.items)) c.in-Some.is c.loop-next.invariant.within in
    to_go_less d.nodes.items c.args.now c.in-Some.at c.loop-next.next c.next_due-next.result c.in-Some.is within c.next_due-next.ensures.found

pub returns-in_err-put_entry-clause-quiet : goal.returns-in_err-put_entry-clause-quiet
returns-in_err-put_entry-clause-quiet g c = λ registers keeps none.
    let so = c.loop-next.invariant.listed in
    absurd (listed_none _ c.args.now (half c.args.self.now.nodes.items) c.in-Some.at (helds registers) c.loop-next.next [] so.0 c.in-Some.is (omega arith) (positions_none _ c.args.now registers none) (so.2 (helds registers) keeps))

pub returns-in_err-put_entry-clause-grown : goal.returns-in_err-put_entry-clause-grown
returns-in_err-put_entry-clause-grown g c = g.met.E.EntrySink.grows_more _ _ _ c.loop-next.invariant.grown c.put_entry.ensures.grown

pub returns-clause-entries : goal.returns-clause-entries
returns-clause-entries g c = λ registers keeps.
    let so = c.loop-next.invariant.listed in
    subst (λ (es : List (Entry g.row.A.Denot)). g.E.EntrySink.gets c.args.entries.now es c.loop-next.entries)
    (listed_all _ c.args.now (half c.args.self.now.nodes.items) registers c.loop-next.next [] so.0 c.in_default.not-Some (so.2 (helds registers) keeps)) so.1
