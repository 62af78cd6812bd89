-- A command with a subcommand is what clap makes of both.
use Rattle.std.proofs.Common.{◌≡◌, ◌∙◌, ap, ap₂, subst, false, Result, Ok}
use Rattle.std.specs.Prelude.{IfOk}
use Rattle.std.proofs.lemmas.Result.{IfOk-weaker}
use Rattle.std.specs.declared.alloc.AllocError.{AllocError}
use Rattle.clap.specs.Words.{App, app_of, with_subcommand}
use Rattle.clap.specs.declared.builder.command.Command.{Command}
use Rattle.clap.specs.declared.builder.command.Command.TheViews.{out-Command}
use Rattle.csvw_command_core.specs.Joined.{Joins}

of_ok : (P : Command → Type 0) (r : Result Command AllocError) (command : Command) → IfOk r P → r ≡ Ok command → P command
of_ok P r command h e = subst (λ (x : Result Command AllocError). IfOk x P) e h

pub joined : (r s t : Result Command AllocError) (outer inner : App) → IfOk r (λ command. app_of command ≡ outer) → IfOk s (λ command. app_of command ≡ inner)
    → IfOk s (λ command. (out-Command command).has_globals ≡ false) → IfOk t (Joins r s)
    → IfOk t (λ command. app_of command ≡ with_subcommand outer inner.top)
joined r s t outer inner outer_is inner_is local h =
    IfOk-weaker t (Joins r s) (λ command. app_of command ≡ with_subcommand outer inner.top)
    (λ made j.
    j.joined (of_ok (λ command. (out-Command command).has_globals ≡ false) s j.inner local j.inner_is)
    ∙ ap₂ with_subcommand (of_ok (λ command. app_of command ≡ outer) r j.outer outer_is j.outer_is)
    (ap (λ (a : App). a.top) (of_ok (λ command. app_of command ≡ inner) s j.inner inner_is j.inner_is)))
    h
