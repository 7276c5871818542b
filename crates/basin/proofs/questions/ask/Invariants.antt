use Rattle.std.proofs.Common.{◌≡◌, ◌+◌}
use Rattle.basin.proofs.Asking.{Told}
use Rattle.basin.proofs.questions.ask.Given as goal

abbrev pub invariant-loop-i : goal.invariant-loop-i
invariant-loop-i g l = record {
  told : Told g.P.Gauged.gauge g.P.Gauged.kept g.P.Gauged.FIRST (g.W.WeatherSource.means l.source) l.index l.places l.i l.list;
  counted : l.readings ≡ l.initial.readings + l.i;
}
