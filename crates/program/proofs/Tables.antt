-- What a table holds of its records. Assumes nothing.
use Rattle.std.proofs.Common.{◌≡◌, ℕ, ◌+◌, true, List, length, ap, ◌∙◌, arith}
use Rattle.semantics.specs.Programs.{Placed}
use Rattle.semantics.specs.Changes.{Loaded}
use Rattle.chain.specs.Chains.{Ends}
use Rattle.chain.specs.Walks.{walk, disjoint, Disjoint}
use Rattle.chain.proofs.Walks.{walks, disjoint_to, disjoint_from}
use Rattle.program.specs.declared.record.Record.{Record}
use Rattle.program.specs.declared.table.Table.{Table}
use Rattle.program.specs.View.{links, along}

-- the table's own facts
pub record Sound (rs : List Record) (first free : ℕ) : Type 0 where
  pub long : length rs ≡ 64
  pub chains : disjoint (links rs) first free ≡ true
  pub all : length (walk (links rs) first) + length (walk (links rs) free) ≡ 64

pub sound : (rs : List Record) (first free : ℕ) (ks js : List ℕ) → length rs ≡ 64 → Disjoint (links rs) first free ks js → length ks + length js ≡ 64 → Sound rs first free
sound rs first free ks js long d all = record {
  long = long;
  chains = disjoint_from (links rs) first free ks js d;
  all = omega (arith, all, ap length (walks (links rs) first ks d.used), ap length (walks (links rs) free js d.spare));
}

-- what it shows, by the lists of its chains
pub shows : (rs : List Record) (first free inputs result : ℕ) (ks js : List ℕ) (body : List Placed) → Disjoint (links rs) first free ks js → along rs ks ≡ body →
    ◌≡◌ {A = Loaded} (record {
      program = record { inputs = inputs; body = along rs (walk (links rs) first); result = result };
      free = walk (links rs) free;
    }) (record { program = record { inputs = inputs; body = body; result = result }; free = js })
shows rs first free inputs result ks js body d e =
    let a = ap (along rs) (walks (links rs) first ks d.used) ∙ e in
    let b = walks (links rs) free js d.spare in
    cc

pub chains_of : (t : Table) → Disjoint (links t.records) t.first t.free (walk (links t.records) t.first) (walk (links t.records) t.free)
chains_of t = disjoint_to (links t.records) t.first t.free t.chains

-- both chains come to an end
pub first_ends : (t : Table) → Ends (links t.records) t.first
first_ends t = (walk (links t.records) t.first, (chains_of t).used)

pub free_ends : (t : Table) → Ends (links t.records) t.free
free_ends t = (walk (links t.records) t.free, (chains_of t).spare)

pub ruleset chains_end = (first_ends, free_ends)
