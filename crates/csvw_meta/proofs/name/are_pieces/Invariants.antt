use Rattle.std.proofs.Common.{◌≡◌, true, take, Bor, List, ℕ}
use Rattle.std.specs.List.{list_all}
use Rattle.csvw_meta.specs.DeclaredName.{is_piece}
use Rattle.csvw_meta.proofs.name.are_pieces.Given as goal

abbrev pub invariant-loop-piece : goal.invariant-loop-piece
invariant-loop-piece l = list_all (λ (p : Bor (List ℕ)). is_piece p.now) (take l.piece-index l.pieces) ≡ true
