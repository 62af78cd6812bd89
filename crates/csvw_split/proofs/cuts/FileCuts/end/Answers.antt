-- The whole file was read.
use Rattle.std.proofs.Common.{◌≡◌, arith, length, subst, sym}
use Rattle.std.specs.List.{All}
use Rattle.csvw_split.specs.declared.cuts.Cut.{Cut}
use Rattle.csvw_split.specs.Front.{HasFront}
use Rattle.csvw_split.proofs.CutLemmas.{fronts_before}
use Rattle.csvw_split.proofs.cuts.FileCuts.end.Goals as goal

pub returns : goal.returns
returns c = λ t text h.
    let s = c.args.self in
    let counted = h.bytes in
    let all : s.length ≡ length text = omega arith in
    record {
      length_is = all;
      cuts = h.cuts;
      fronts = subst (λ front. All (λ (k : Cut). HasFront t text front k.first_byte) s.cuts) (sym c.unwrap_or.ensures)
          (fronts_before t text s.header_bytes s.length s.cuts h.front h.after_front);
    }
