-- The refusals of a bench as faults, each by its number, its layer and its line. Assumes nothing.
use Rattle.std.specs.Prelude.{codes}
use Rattle.scan.specs.Pieces.{Bytes}
use Rattle.program.specs.Faults.{fault_number}
use Rattle.reader.specs.ReadFaults.{read_fault}
use Rattle.text.specs.Faults.{Fault, Layer, text_layer, domain_layer, rule_layer, book_layer, program_layer, fault}
use Rattle.bench.specs.declared.fault.BenchFault.{BenchFault}
use Rattle.bench.specs.declared.fault.BenchFault.TheVariants.{Reading, NoProgram, Evaluating}
use Rattle.bench.specs.declared.fault.FaultLayer.{FaultLayer}
use Rattle.bench.specs.declared.fault.FaultLayer.TheVariants.{Text, Domain, Rule, Book, Program}

abbrev pub bench_fault : BenchFault → Fault
bench_fault (Reading f) = read_fault f
bench_fault NoProgram = fault 13 0
bench_fault (Evaluating f) = fault (fault_number f) 0

abbrev pub layer_seen : FaultLayer → Layer
layer_seen Text = text_layer
layer_seen Domain = domain_layer
layer_seen Rule = rule_layer
layer_seen Book = book_layer
layer_seen Program = program_layer

-- a layer as a refusal tells it
abbrev pub layer_text : Layer → Bytes
layer_text text_layer = codes "text"
layer_text domain_layer = codes "domain"
layer_text rule_layer = codes "rule"
layer_text book_layer = codes "book"
layer_text program_layer = codes "program"
