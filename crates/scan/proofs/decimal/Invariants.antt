use Rattle.std.proofs.Common.{◌≡◌, min, true, take}
use Rattle.std.specs.List.{list_all}
use Rattle.scan.specs.Numbers.{digit, worth}
use Rattle.scan.proofs.decimal.Given as goal

abbrev pub invariant-loop-byte : goal.invariant-loop-byte
invariant-loop-byte l = record {
  digits : list_all digit (take l.byte-index l.word) ≡ true;
  value : l.n ≡ min (worth (take l.byte-index l.word)) 65536;
}
