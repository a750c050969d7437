use Rattle.std.proofs.Common.{◌≤◌, map, length, sym, ap, ◌∙◌, subst, arith}
use Rattle.std.proofs.lemmas.List.{length-map}
use Rattle.chain.specs.Walks.{walk, Disjoint}
use Rattle.program.specs.declared.record.Record.{Record}
use Rattle.program.specs.View.{links, instructions, placed}
use Rattle.program.proofs.Tables.{chains_of, shows}
use Rattle.program.proofs.Steps.{along_put}
use Rattle.program.proofs.table.Table.replace.Goals as goal

pub returns : goal.returns
returns c =
    let t = c.args.self.now in
    let is = instructions t.records in
    let at = c.args.at in
    let ks = walk (links t.records) t.first in
    let js = walk (links t.records) t.free in
    let high : at ≤ length is = omega (arith, c.requires.high, t.long, length-map t.records (λ (r : Record). r.instruction)) in
    shows c.put.new.records t.first t.free t.inputs t.result ks js _ (subst (λ l. Disjoint l t.first t.free ks js) (sym c.put.ensures.rest) (chains_of t))
    (ap (λ l. map (placed l) ks) c.put.ensures.what ∙ along_put is at c.args.instruction c.requires.low high (links t.records) t.first ks (chains_of t).used)
