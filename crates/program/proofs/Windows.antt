-- What a window on a chain shows. Assumes nothing.
use Rattle.std.proofs.Common.{◌≡◌, ℕ, ◌-◌, ◌<◌, List, [], ◌∷◌, map, length, refl, ap, ◌∙◌, arith}
use Rattle.std.specs.List.{AllByRecursion}
use Rattle.std.proofs.lemmas.List.{length-map, get_or-map}
use Rattle.chain.specs.Chains.{Chained, link}
use Rattle.chain.specs.Records.{records_at}
use Rattle.chain.specs.Walks.{walk}
use Rattle.chain.proofs.Steps.{records_at-cons}
use Rattle.program.specs.declared.record.Record.{Record}
use Rattle.program.specs.declared.table.Table.{Table}
use Rattle.program.specs.View.{links, along, view, no_instruction}
use Rattle.program.specs.Windows.{in_its_record}
use Rattle.program.proofs.Tables.{chains_of}

-- the records of a chain, with what stands in them
pub shows_along : (rs : List Record) (first : ℕ) (ks : List ℕ) → Chained (links rs) first ks → map (λ (p : ℕ × Record). in_its_record (p.0, p.1.instruction)) (records_at rs ks) ≡ along rs ks
shows_along rs first [] c = refl
shows_along rs first (k ∷ ks) c =
    let none : Record = record { instruction = no_instruction; next = 0 } in
    let inside : k - 1 < length rs = omega (arith, c.1, c.2, length-map rs (λ (r : Record). r.next)) in
    let head = records_at-cons rs k ks none inside in
    let what = get_or-map (λ (r : Record). r.instruction) rs (k - 1) none no_instruction inside in
    let tail = shows_along rs (link (links rs) k) ks c.4 in
    ap (map (λ (p : ℕ × Record). in_its_record (p.0, p.1.instruction))) head ∙ cc

-- every record of the program is one of the table's
pub all_within : (t : Table) → AllByRecursion (λ x. x.at < 65) (view t).program.body
all_within t = go t.first (walk (links t.records) t.first) (chains_of t).used
  where
    go : (first : ℕ) (ks : List ℕ) → Chained (links t.records) first ks → AllByRecursion (λ x. x.at < 65) (along t.records ks)
    go first [] c = tt
    go first (k ∷ ks) c = (omega (arith, c.2, t.long, length-map t.records (λ (r : Record). r.next)), go (link (links t.records) k) ks c.4)
