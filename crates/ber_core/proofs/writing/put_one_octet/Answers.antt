use Rattle.std.proofs.Common.{◌≤◌, ◌+◌, ℕ, List, length, sym, subst, rules}
use Rattle.std.specs.Prelude.{◌↔◌, IsOk}
use Rattle.arrayvec.specs.ArrayVec.{array_vec_len}
use Rattle.ber_core.proofs.WrittenLemmas.{written_one}
use Rattle.ber_core.proofs.writing.put_one_octet.Goals as goal

pub returns-clause-fits : goal.returns-clause-fits
returns-clause-fits g c =
    subst (λ (e : List ℕ). IsOk c.map_err.result ↔ (array_vec_len c.args.out.now + length e ≤ g.row.N)) (sym (written_one c.args.identifier c.args.number c.requires)) (search rules)

pub returns-clause-written : goal.returns-clause-written
returns-clause-written g c = rw (written_one c.args.identifier c.args.number c.requires) (search rules)
