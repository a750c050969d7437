use Rattle.std.proofs.Common.{◌≡◌, ℕ, T, ◌∷◌, map, sym, ap, ◌∙◌, subst, arith}
use Rattle.std.proofs.lemmas.List.{length-map}
use Rattle.semantics.specs.Programs.{has, records}
use Rattle.chain.specs.Chains.{Among}
use Rattle.chain.specs.Places.{without}
use Rattle.chain.specs.Walks.{walk, Disjoint}
use Rattle.chain.proofs.Relinks.{among_within, clear_among}
use Rattle.chain.proofs.Places.{apart_gone, count_without}
use Rattle.chain.proofs.Moves.{leaves, comes_free}
use Rattle.program.specs.declared.record.Record.{Record}
use Rattle.program.specs.declared.table.Table.{Table}
use Rattle.program.specs.View.{links, instructions, placed, view}
use Rattle.program.proofs.Tables.{sound, chains_of, shows}
use Rattle.program.proofs.Loading.{same_instructions}
use Rattle.program.proofs.Steps.{records_along, has_among, along_without}
use Rattle.program.proofs.table.Table.release.Goals as goal
use Rattle.program.proofs.table.Table.release.Goals.{After-push_front-self}

among : (t : Table) (at : ℕ) → T (has at (records (view t).program.body)) → Among at (walk (links t.records) t.first)
among t at h = let ks = walk (links t.records) t.first in has_among at ks (subst (λ l. T (has at l)) (records_along (instructions t.records) ks) h)

pub remove-self-requires : goal.remove-self-requires
remove-self-requires c =
    let t = c.args.self.now in
    (walk (links t.records) t.first, (chains_of t).used, among t c.args.at c.requires)

pub push_front-self-requires : goal.push_front-self-requires
push_front-self-requires c =
    let t = c.args.self.now in
    let w = among_within (links t.records) c.args.at t.first (walk (links t.records) t.first) (among t c.args.at c.requires) (chains_of t).used in
    record { low = w.low; high = omega (arith, w.high, length-map t.records (λ (r : Record). r.next)) }

chained : (c : After-push_front-self) → let t = c.args.self.now in
    Disjoint (links c.push_front-self.new.records) c.remove-self.result c.push_front-self.result (without c.args.at (walk (links t.records) t.first)) (c.args.at ∷ walk (links t.records) t.free)
chained c =
    let t = c.args.self.now in
    let at = c.args.at in
    let l0 = links t.records in
    let l1 = links c.remove-self.new.records in
    let l2 = links c.push_front-self.new.records in
    let ks = walk l0 t.first in
    let js = walk l0 t.free in
    let first = c.remove-self.result in
    let e = c.push_front-self.ensures in
    let left = leaves l0 l1 t.first t.free first at ks js (chains_of t) c.remove-self.ensures.links in
    subst (λ f. Disjoint l2 first f (without at ks) (at ∷ js)) (sym e.value)
    (comes_free l1 l2 first t.free at (without at ks) js left (apart_gone at ks) (clear_among at ks js (among t at c.requires) (chains_of t).clear) e.chain e.others)

pub invariant_of-self : goal.invariant_of-self
invariant_of-self c =
    let t = c.args.self.now in
    let at = c.args.at in
    let ks = walk (links t.records) t.first in
    let js = walk (links t.records) t.free in
    let fewer = count_without (links t.records) t.first at ks (chains_of t).used (among t at c.requires) in
    let k = sound c.push_front-self.new.records c.remove-self.result c.push_front-self.result (without at ks) (at ∷ js) (omega (arith, t.long)) (chained c) (omega (arith, fewer, t.all)) in
    record { long = k.long; chains = k.chains; all = k.all }

pub returns : goal.returns
returns c =
    let t = c.args.self.now in
    let at = c.args.at in
    let ks = walk (links t.records) t.first in
    let js = walk (links t.records) t.free in
    let rs1 = c.remove-self.new.records in
    let rs2 = c.push_front-self.new.records in
    let same : instructions rs2 ≡ instructions t.records = ap instructions c.push_front-self.ensures.rest ∙ same_instructions rs1 (links rs2) ∙ ap instructions c.remove-self.ensures.rest ∙ same_instructions t.records (links rs1) in
    shows rs2 c.remove-self.result c.push_front-self.result t.inputs t.result (without at ks) (at ∷ js) _ (chained (goal.at.returns c).After-push_front-self)
    (ap (λ l. map (placed l) (without at ks)) same ∙ along_without (instructions t.records) at ks)
