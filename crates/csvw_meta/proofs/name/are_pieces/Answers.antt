use Rattle.std.proofs.Common.{arith, Bor, List, ℕ}
use Rattle.std.proofs.lemmas.Grind.{common_steps}
use Rattle.std.proofs.lemmas.List.Folds.{list_all-map}
use Rattle.csvw_meta.specs.DeclaredName.{is_piece}
use Rattle.csvw_meta.proofs.name.are_pieces.Goals as goal

pub returns-then-not-is_piece : goal.returns-then-not-is_piece
returns-then-not-is_piece c =
    rw (list_all-map is_piece (λ (p : Bor (List ℕ)). p.now) c.args.pieces.now) (grind (arith, common_steps))

pub returns : goal.returns
returns c = rw (list_all-map is_piece (λ (p : Bor (List ℕ)). p.now) c.args.pieces.now) (grind (arith, common_steps))
