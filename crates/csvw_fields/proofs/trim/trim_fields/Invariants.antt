use Rattle.std.proofs.Common.{◌≡◌, true, map, take, chars, encode_utf8_all}
use Rattle.csvw_fields.specs.Bounds.{apart_all, texts_apart}
use Rattle.csvw_records.specs.Grammar.{trimmed}
use Rattle.csvw_fields.proofs.trim.trim_fields.Given as goal

abbrev pub invariant-loop-bound : goal.invariant-loop-bound
invariant-loop-bound l = record {
  bounded : apart_all l.texts l.fields.items ≡ true;
  texts : texts_apart l.texts l.fields.items ≡ map (λ x. encode_utf8_all (trimmed l.trim (chars x))) (texts_apart l.texts (take l.bound-index l.bounds));
}
