use Rattle.std.proofs.Common.{◌≡◌, take}
use Rattle.std.specs.Str.Parse.{AllDigits, digits_value}
use Rattle.csvw_ntriples.proofs.reading.enclosed.hex_value.Given as goal

abbrev pub invariant-loop-d : goal.invariant-loop-d
invariant-loop-d l = record {
  digits : AllDigits 16 (take l.d-index l.digits);
  value : l.value ≡ digits_value 16 (take l.d-index l.digits);
}
