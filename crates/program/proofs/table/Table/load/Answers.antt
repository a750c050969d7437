use Rattle.std.proofs.Common.{◌≡◌, ◌+◌, ◌-◌, length, take, ap, ◌∙◌, arith}
use Rattle.std.specs.List.{range_with_len}
use Rattle.std.proofs.lemmas.List.FromFn.{length-range_with_len}
use Rattle.chain.specs.Walks.{Disjoint}
use Rattle.program.specs.View.{links, instructions}
use Rattle.program.proofs.Tables.{sound}
use Rattle.program.proofs.Loading.{halves, shows_loaded, same_instructions}
use Rattle.program.proofs.table.Table.load.Goals as goal
use Rattle.program.proofs.table.Table.load.Goals.{After-rise-self-2}

chained : (c : After-rise-self-2) → let n = length c.args.instructions.now in Disjoint (links c.rise-self-2.new.records) c.rise-self.result c.rise-self-2.result (range_with_len 1 n) (range_with_len (n + 1) (64 - n))
chained c =
    halves (links c.rise-self.new.records) (links c.rise-self-2.new.records) (length c.args.instructions.now) c.rise-self.result c.rise-self-2.result c.requires
    c.rise-self.ensures.chain c.rise-self-2.ensures.chain c.rise-self-2.ensures.others

pub invariant_of-self : goal.invariant_of-self
invariant_of-self c =
    let n = length c.args.instructions.now in
    let k = sound c.rise-self-2.new.records c.rise-self.result c.rise-self-2.result (range_with_len 1 n) (range_with_len (n + 1) (64 - n)) (omega (arith, c.args.self.now.long)) (chained c)
    (omega (arith, c.requires, length-range_with_len 1 n, length-range_with_len (n + 1) (64 - n))) in
    record { long = k.long; chains = k.chains; all = k.all }

pub returns : goal.returns
returns c =
    let is = c.args.instructions.now in
    let one : instructions c.rise-self.new.records ≡ instructions c.fill.new.records = ap instructions c.rise-self.ensures.rest ∙ same_instructions c.fill.new.records (links c.rise-self.new.records) in
    let two : instructions c.rise-self-2.new.records ≡ instructions c.rise-self.new.records = ap instructions c.rise-self-2.ensures.rest ∙ same_instructions c.rise-self.new.records (links c.rise-self-2.new.records) in
    shows_loaded c.rise-self-2.new.records is c.rise-self.result c.rise-self-2.result c.args.inputs c.args.returned (ap (take (length is)) (two ∙ one) ∙ c.fill.ensures) (chained (goal.at.returns c).After-rise-self-2)
