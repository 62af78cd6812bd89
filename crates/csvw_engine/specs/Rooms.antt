-- The order in which tables are read, and the buffers for that.
use Rattle.std.specs.Prelude.{◌≡◌, ℕ, Bool, List, MatchOption, length, Option, Some, None}
use Rattle.std.specs.declared.vec.Vec.{Vec}
use Rattle.std.specs.declared.alloc.Global.{Global}
use Rattle.csvw_session.specs.Events.{Event}
use Rattle.csvw_engine.specs.ReadOrder.{AreTableByTable, AreInTurn}
use Rattle.csvw_engine.specs.TurnsReading.{AreOpen}
use Rattle.csvw_engine.specs.Texts.{piece_limit}
use Rattle.csvw_engine.specs.declared.room.Order.{Order}
use Rattle.csvw_engine.specs.declared.room.Order.TheVariants as order
use Rattle.csvw_engine.specs.declared.room.Room.{Room}

-- what an order says of the events of this number of tables
abbrev pub IsOrder : Order → ℕ → List Event → Type 0
IsOrder order.TableByTable = AreTableByTable
IsOrder order.InTurns = AreInTurn

-- the order that a room is for
abbrev pub order_in : Option (Vec Bool Global) → Order
order_in None = order.TableByTable
order_in (Some flags) = order.InTurns

-- a buffer for a piece of a table and, if this number of tables is read in turn, whether each is open
pub record IsRoomFor (many : ℕ) (room : Room) : Type 0 where
  pub piece : length room.piece.items ≡ piece_limit
  pub going : MatchOption room.going (Unit {0}) (λ flags. (length flags.items ≡ many) × AreOpen flags.items)
