-- Records filled and chained from the first on. Assumes nothing.
use Rattle.std.proofs.Common.{◌≡◌, ℕ, zero, suc, ◌+◌, ◌-◌, ◌<◌, ◌≤◌, List, [], ◌∷◌, map, length, get_or, take, sym, refl, ap, ◌∙◌, subst, arith}
use Rattle.std.specs.List.{range_with_len}
use Rattle.std.proofs.lemmas.List.{get_or-take}
use Rattle.semantics.specs.Rules.{numbered}
use Rattle.semantics.specs.Cases.{from}
use Rattle.semantics.specs.Changes.{Loaded, as_loaded}
use Rattle.semantics.specs.declared.Instruction.{Instruction}
use Rattle.chain.specs.Chains.{Chained, OthersStay, with_links}
use Rattle.chain.specs.Walks.{walk, Disjoint}
use Rattle.chain.proofs.Rising.{clear_above, clear_below}
use Rattle.program.specs.declared.record.Record.{Record}
use Rattle.program.specs.View.{links, instructions, placed, no_instruction, along}
use Rattle.program.proofs.Tables.{shows}

pub from_range : (k n : ℕ) → range_with_len k n ≡ from k n
from_range k zero = refl
from_range k (suc n) = let e : k + 1 ≡ suc k = omega arith in ap (λ l. k ∷ l) (from_range (k + 1) n ∙ ap (λ j. from j n) e)

-- new links leave the instructions
pub same_instructions : (rs : List Record) (ns : List ℕ) → instructions (with_links (λ (r : Record) n. record { instruction = r.instruction; next = n }) rs ns) ≡ instructions rs
same_instructions [] ns = refl
same_instructions (r ∷ rs) [] = refl
same_instructions (r ∷ rs) (n ∷ ns) = ap (λ l. r.instruction ∷ l) (same_instructions rs ns)

in_order : (all is : List Instruction) (j : ℕ) → ((i : ℕ) → i < length is → get_or all (j + i) no_instruction ≡ get_or is i no_instruction) → map (placed all) (range_with_len (suc j) (length is)) ≡ numbered (suc j) is
in_order all [] j h = refl
in_order all (x ∷ is) j h =
    let a : suc j - 1 ≡ j + 0 = omega arith in
    let head : get_or all (suc j - 1) no_instruction ≡ x = ap (λ k. get_or all k no_instruction) a ∙ h 0 (omega arith) in
    let e : suc j + 1 ≡ suc (suc j) = omega arith in
    let tail = in_order all is (suc j) (λ i lt. let b : suc j + i ≡ j + suc i = omega arith in ap (λ k. get_or all k no_instruction) b ∙ h (suc i) (omega arith)) in
    cc

filled : (all is : List Instruction) → take (length is) all ≡ is → map (placed all) (range_with_len 1 (length is)) ≡ numbered 1 is
filled all is e = in_order all is 0 (λ i lt. let z : 0 + i ≡ i = omega arith in ap (λ k. get_or all k no_instruction) z ∙ sym (get_or-take (length is) all i no_instruction lt) ∙ ap (λ l. get_or l i no_instruction) e)

length_numbered : (k : ℕ) (is : List Instruction) → length (numbered k is) ≡ length is
length_numbered k [] = refl
length_numbered k (i ∷ is) = let t = length_numbered (suc k) is in cc

-- n records in the one chain and those behind them in the other
pub halves : (before after : List ℕ) (n first free : ℕ) → n ≤ 64 → Chained before first (range_with_len 1 (n + 1 - 1)) → Chained after free (range_with_len (n + 1) (64 + 1 - (n + 1))) →
    OthersStay before after (range_with_len (n + 1) (64 + 1 - (n + 1))) → Disjoint after first free (range_with_len 1 n) (range_with_len (n + 1) (64 - n))
halves before after n first free h c d stays =
    let a : n + 1 - 1 ≡ n = omega arith in
    let b : 64 + 1 - (n + 1) ≡ 64 - n = omega arith in
    let used = subst (λ k. Chained before first (range_with_len 1 k)) a c in
    record {
      used = stays first (range_with_len 1 n) (clear_below (n + 1) (64 + 1 - (n + 1)) 1 n (omega arith)) used;
      spare = subst (λ k. Chained after free (range_with_len (n + 1) k)) b d;
      clear = clear_above 1 n (n + 1) (64 - n) (omega arith);
    }

-- the records behind them as `as_loaded` has them
spare_from : (n : ℕ) (is : List Instruction) → length is ≡ n → range_with_len (n + 1) (64 - n) ≡ from (suc (length (numbered 1 is))) (64 - length (numbered 1 is))
spare_from n is e =
    let s : n + 1 ≡ suc n = omega arith in
    from_range (n + 1) (64 - n) ∙ ap (λ k. from k (64 - n)) s ∙ ap (λ k. from (suc k) (64 - k)) (sym (length_numbered 1 is ∙ e))

-- what the table then shows
pub shows_loaded : (rs : List Record) (is : List Instruction) (first free inputs result : ℕ) → take (length is) (instructions rs) ≡ is →
    Disjoint (links rs) first free (range_with_len 1 (length is)) (range_with_len (length is + 1) (64 - length is)) →
    ◌≡◌ {A = Loaded} (record {
      program = record { inputs = inputs; body = along rs (walk (links rs) first); result = result };
      free = walk (links rs) free;
    }) (as_loaded (record { inputs = inputs; body = numbered 1 is; result = result }))
shows_loaded rs is first free inputs result e d =
    shows rs first free inputs result (range_with_len 1 (length is)) (range_with_len (length is + 1) (64 - length is)) (numbered 1 is) d (filled (instructions rs) is e) ∙
    ap (λ l. record { program = record { inputs = inputs; body = numbered 1 is; result = result }; free = l }) (spare_from (length is) is refl)
