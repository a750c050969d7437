-- Results that gained a line, and refusals as faults. Assumes nothing.
use Rattle.std.proofs.Common.{◌≡◌, ℕ, Ok, Err, Result, sym, ap, arith}
use Rattle.reader.specs.declared.fault.At.{At}
use Rattle.reader.specs.ReadFaults.{located}

pub located_ok : {X F : Type 0} (line : ℕ) (r : Result X F) (x : X) → located line r ≡ Ok x → r ≡ Ok x
located_ok line (Ok y) x e = let same : y ≡ x = cc in ap (λ z. Ok z) same
located_ok line (Err f) x e = let z : ◌≡◌ {A = ℕ} 0 1 = cc in absurd (omega arith)

pub located_err : {X F : Type 0} (line : ℕ) (r : Result X F) (a : At F) → located line r ≡ Err a → (r ≡ Err a.fault) × (a.line ≡ line)
located_err line (Ok x) a e = let z : ◌≡◌ {A = ℕ} 0 1 = cc in absurd (omega arith)
located_err {X} {F} line (Err f) a e =
    let same : ◌≡◌ {A = At F} (record { line = line; fault = f }) a = cc in
    (ap (λ b. Err b.fault) same, sym (ap (λ b. b.line) same))
