-- The piece has the length of the room, and the order is the one that the room is for.
use Rattle.std.proofs.Common.{◌∙◌, sym, ap, subst, length, Bool, List, ℕ, Option}
use Rattle.std.specs.declared.vec.Vec.{Vec}
use Rattle.std.specs.declared.alloc.Global.{Global}
use Rattle.csvw_engine.specs.ReadOrder.{AreInTurn, AreTableByTable}
use Rattle.csvw_engine.specs.Reading.{Reads}
use Rattle.csvw_engine.specs.Rooms.{IsOrder, order_in}
use Rattle.csvw_engine.specs.Texts.{piece_limit}
use Rattle.csvw_engine.proofs.room.read_all.Goals as goal

pub returns-in-None-clause-reads : goal.returns-in-None-clause-reads
returns-in-None-clause-reads g c =
    let s = g.S.TripleSink in
    λ start h many.
    subst (λ (going : Option (Vec Bool Global)). Reads s.gains s.cuts s.is_open s.failed g.R.Read.remaining (IsOrder (order_in going)) piece_limit start
    c.args.readers.now c.read_tables.new.readers c.args.session.now c.read_tables.new.session c.read_tables.result) (sym c.in-None.is)
    (subst (λ (n : ℕ). Reads s.gains s.cuts s.is_open s.failed g.R.Read.remaining AreTableByTable n start
    c.args.readers.now c.read_tables.new.readers c.args.session.now c.read_tables.new.session c.read_tables.result)
    (ap (λ (xs : List ℕ). length xs) c.as_mut_slice-piece.ensures.value ∙ c.requires.room.piece) (c.read_tables.ensures.reads start h many))

pub returns-in-Some-clause-reads : goal.returns-in-Some-clause-reads
returns-in-Some-clause-reads g c =
    let s = g.S.TripleSink in
    λ start h many.
    subst (λ (going : Option (Vec Bool Global)). Reads s.gains s.cuts s.is_open s.failed g.R.Read.remaining (IsOrder (order_in going)) piece_limit start
    c.args.readers.now c.read_turns.new.readers c.args.session.now c.read_turns.new.session c.read_turns.result) (sym c.in-Some.is)
    (subst (λ (n : ℕ). Reads s.gains s.cuts s.is_open s.failed g.R.Read.remaining AreInTurn n start
    c.args.readers.now c.read_turns.new.readers c.args.session.now c.read_turns.new.session c.read_turns.result)
    (ap (λ (xs : List ℕ). length xs) c.as_mut_slice-piece.ensures.value ∙ c.requires.room.piece) (c.read_turns.ensures.reads start h many))
