use Rattle.std.proofs.Common.{◌≡◌, ℕ, sym, refl, ap, ◌∙◌, rules}
use Rattle.std.proofs.Output.{has_written_of_eq}
use Rattle.domain.specs.declared.fault.DomainFault.{DomainFault}
use Rattle.domain.specs.declared.fault.DomainFault.TheVariants.{NoSettledCode, WrongWidth}
use Rattle.domain.specs.Faults.{fault_number}
use Rattle.text.specs.Faults.{Fault, domain_layer, fault}
use Rattle.script.specs.Answers.{fault_text}
use Rattle.script.specs.Transcripts.{refusal_seen, told_text}
use Rattle.script.proofs.answer.RefusalDisplay.fmt.Goals as goal

abbrev in_domain : ℕ → Fault
in_domain number = record { number = number; layer = domain_layer; line = 0 }

-- both faults of a domain are of its layer
of_domain : (f : DomainFault) → in_domain (fault_number f) ≡ fault (fault_number f) 0
of_domain NoSettledCode = refl
of_domain WrongWidth = refl

pub returns-in-NoBench-clause-writes : goal.returns-in-NoBench-clause-writes
returns-in-NoBench-clause-writes g c = λ plain ok.
    let told : fault_text (in_domain c.number.result) ≡ told_text (refusal_seen c.args.self.now) =
    ap (λ n. fault_text (in_domain n)) c.number.ensures ∙ ap fault_text (of_domain c.in-NoBench.fault) ∙ sym (ap (λ r. told_text (refusal_seen r)) c.in-NoBench.is) in
    has_written_of_eq _ _ _ _ _ told (search rules)
