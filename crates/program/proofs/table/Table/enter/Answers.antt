use Rattle.std.proofs.Common.{◌≡◌, ℕ, ◌-◌, ◌≤◌, List, map, length, set, sym, ap, ◌∙◌, subst, arith}
use Rattle.std.proofs.lemmas.List.{length-map}
use Rattle.semantics.specs.Programs.{Placed, head}
use Rattle.chain.specs.Chains.{Within, link}
use Rattle.chain.specs.Places.{put_before}
use Rattle.chain.specs.Walks.{walk, Disjoint}
use Rattle.chain.proofs.Places.{count_before}
use Rattle.chain.proofs.Relinks.{by_records}
use Rattle.chain.proofs.Moves.{Taken, takes_off, enters}
use Rattle.program.specs.declared.record.Record.{Record}
use Rattle.program.specs.declared.table.Table.{Table}
use Rattle.program.specs.View.{links, instructions, placed, view}
use Rattle.program.specs.Steps.{put_in, entered_in}
use Rattle.program.proofs.Tables.{sound, chains_of, shows}
use Rattle.program.proofs.Loading.{same_instructions}
use Rattle.program.proofs.Steps.{along_before, along_others, here}
use Rattle.program.proofs.table.Table.enter.Goals as goal
use Rattle.program.proofs.table.Table.enter.Goals.{After-put}

off : (t : Table) → 1 ≤ length (view t).free → Taken (links t.records) t.first t.free (walk (links t.records) t.first) (walk (links t.records) t.free)
off t h = takes_off (links t.records) t.first t.free _ _ (chains_of t) h

within : (t : Table) → 1 ≤ length (view t).free → Within t.records t.free
within t h = by_records (λ (r : Record). r.next) t.records t.free (off t h).within

pub take_front-self-requires : goal.take_front-self-requires
take_front-self-requires c = within c.args.self.now c.requires

pub insert_before-self-requires : goal.insert_before-self-requires
insert_before-self-requires c =
    let t = c.args.self.now in
    record { misses = (walk (links t.records) t.first, (chains_of t).used, (off t c.requires).away); within = within t c.requires }

pub put-requires : goal.put-requires
put-requires c = let w = within c.args.self.now c.requires in record { low = w.low; high = omega (arith, w.high) }

chained : (c : After-put) → let t = c.args.self.now in
    Disjoint (links c.put.new.records) c.insert_before-self.result c.take_front-self.result (put_before c.args.place t.free (walk (links t.records) t.first)) (off t c.requires).rest
chained c =
    let t = c.args.self.now in
    let o = off t c.requires in
    let ks = walk (links t.records) t.first in
    let l0 = links t.records in
    let l1 = links c.insert_before-self.new.records in
    let first = c.insert_before-self.result in
    let kept = enters l0 l1 t.first (link l0 t.free) first c.args.place t.free ks o.rest o.chains o.apart c.insert_before-self.ensures.links in
    let now = λ (l : List ℕ) (f : ℕ). Disjoint l first f (put_before c.args.place t.free ks) o.rest in
    subst (λ l. now l c.take_front-self.result) (sym c.put.ensures.rest) (subst (now l1) (sym c.take_front-self.ensures.value) kept)

pub invariant_of-self : goal.invariant_of-self
invariant_of-self c =
    let t = c.args.self.now in
    let o = off t c.requires in
    let ks = walk (links t.records) t.first in
    let k = sound c.put.new.records c.insert_before-self.result c.take_front-self.result (put_before c.args.place t.free ks) o.rest (omega (arith, t.long)) (chained c)
    (omega (arith, count_before c.args.place t.free ks, t.all, ap length o.is)) in
    record { long = k.long; chains = k.chains; all = k.all }

pub returns : goal.returns
returns c =
    let t = c.args.self.now in
    let o = off t c.requires in
    let w = within t c.requires in
    let at = t.free in
    let place = c.args.place in
    let i = c.args.instruction in
    let ks = walk (links t.records) t.first in
    let is = instructions t.records in
    let rs1 = c.insert_before-self.new.records in
    let rs2 = c.put.new.records in
    let high : at ≤ length is = omega (arith, w.high, length-map t.records (λ (r : Record). r.instruction)) in
    let new : Placed = record { at = at; what = i } in
    let what : instructions rs2 ≡ set is (at - 1) i = c.put.ensures.what ∙ ap (λ l. set l (at - 1) i) (ap instructions c.insert_before-self.ensures.rest ∙ same_instructions t.records (links rs1)) in
    let body : map (placed (instructions rs2)) (put_before place at ks) ≡ put_in place new (map (placed is) ks) =
    ap (λ l. map (placed l) (put_before place at ks)) what ∙ along_before (set is (at - 1) i) place at ks ∙
    ap (λ x. put_in place x (map (placed (set is (at - 1) i)) ks)) (here is at i w.low high) ∙
    ap (put_in place new) (along_others is at i w.low high (links t.records) t.first ks (chains_of t).used o.away) in
    record {
      value = sym (ap head o.is);
      after = shows rs2 c.insert_before-self.result c.take_front-self.result t.inputs t.result (put_before place at ks) o.rest _ (chained (goal.at.returns c).After-put) body ∙ sym (ap (entered_in place i (view t)) o.is);
    }
