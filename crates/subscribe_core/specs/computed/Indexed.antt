-- What a subscriber's fields keep to: the three indexes agree with the blocks and with what they hold.
use Rattle.std.specs.Prelude.{◌≡◌, ℕ, ◌+◌, Bool, not, ◌&&◌, ◌||◌, List, [], ◌∷◌, ◌++◌, Option, None, length, map, if◌then◌else◌}
use Rattle.block_core.specs.declared.block.Block.{Block}
use Rattle.subscribe_core.specs.declared.deadlines.Deadlines.{Deadlines}
use Rattle.subscribe_core.specs.declared.entry.Entry.{Entry}
use Rattle.subscribe_core.specs.declared.entry.Entry.TheVariants as says
use Rattle.subscribe_core.specs.declared.names.Name.{Name}
use Rattle.subscribe_core.specs.declared.registers.LiveState.{LiveState}
use Rattle.subscribe_core.specs.declared.registers.Register.{Register}
use Rattle.subscribe_core.specs.computed.Deadlines.{KeepsDeadlinesOf, helds}
use Rattle.subscribe_core.specs.computed.Flagged.{AreFlagged}
use Rattle.subscribe_core.specs.FrameEntry.{entry_of}
use Rattle.subscribe_core.specs.Matching.{facts_of_frame}
use Rattle.subscribe_core.specs.computed.Names.{AreSorted, AreNamesOf}
use Rattle.subscribe_core.specs.EventsRead.{FrameRead}
use Rattle.subscribe_core.specs.Apart.{AreApart}
use Rattle.subscribe_core.specs.State.{idle}
use Rattle.subscribe_core.specs.computed.Steps.{after_clock, after_switch, verdict_on, held_after_frame}

-- What the private fields of a subscriber keep to: a register for each block, no two blocks of one name, the names of
-- all blocks in order, the deadlines of exactly those blocks that hold something, and the positions of exactly those that
-- take simulated frames
pub record IsIndexed {A : Type 0} (blocks : List (Block A)) (registers : List Register) (names : List (Name A)) (deadlines : Deadlines A) (positions : List ℕ) : Type 0 where
  pub sizes : length registers ≡ length blocks
  pub apart : AreApart blocks
  pub sorted : AreSorted names
  pub named : AreNamesOf names blocks
  pub timed : KeepsDeadlinesOf deadlines (helds registers)
  pub flagged : AreFlagged positions registers

-- a register once what is over at the moment is let go
abbrev pub register_after_clock : ℕ → Register → Register
register_after_clock now r = record { held = after_clock r.held now; takes_simulated = r.takes_simulated }

abbrev pub registers_after_clock : ℕ → List Register → List Register
registers_after_clock now rs = map (register_after_clock now) rs

-- a register once the simulation mode is set off
abbrev pub switched_off_one : Register → Register
switched_off_one r = if r.takes_simulated then idle else r

abbrev pub switched_off : List Register → List Register
switched_off rs = map switched_off_one rs

-- a Switched entry for each block that takes simulated frames; the first has position b
abbrev pub flagged_entries : {A : Type 0} → ℕ → List Register → List (Entry A)
flagged_entries b [] = []
flagged_entries b (r ∷ rs) = if r.takes_simulated then says.Switched b ∷ flagged_entries (b + 1) rs else flagged_entries (b + 1) rs

-- a good frame switches the block of this register
abbrev pub switches : Register → FrameRead → Bool
switches r f = f.pdu.simulation && not r.takes_simulated

-- what the block holds once the expiry and the switch are done
abbrev pub good_held : ℕ → Register → FrameRead → Option LiveState
good_held now r f = after_switch (switches r f) (after_clock r.held now)

-- the entries of a good frame of block b
abbrev pub good_entries : {A : Type 0} → ℕ → ℕ → Register → FrameRead → List (Entry A)
good_entries b now r f =
    (if switches r f then says.Switched b ∷ [] else []) ++ entry_of b f (verdict_on (good_held now r f) (facts_of_frame f)) ∷ []

-- the block's register after a good frame
abbrev pub good_register : ℕ → Register → FrameRead → Register
good_register now r f =
    record {
      held = held_after_frame (verdict_on (good_held now r f) (facts_of_frame f)) (good_held now r f) now (facts_of_frame f);
      takes_simulated = r.takes_simulated || f.pdu.simulation;
    }

-- what a good frame gives its block to hold, if anything
abbrev pub good_renewal : ℕ → Register → FrameRead → Option LiveState
good_renewal now r f = held_after_frame (verdict_on (good_held now r f) (facts_of_frame f)) None now (facts_of_frame f)
