use Rattle.std.proofs.Common.{◌≡◌, ◌+◌, ◌-◌, ◌≤◌, min, pos}
use borrow.Author.Differences.{up}
use Rattle.supply.specs.Window.{window}
use Rattle.rack.specs.Cycle.{repeated, least_window}
use Rattle.rack.proofs.levels.Levels.least_window.Given as goal

abbrev pub invariant-loop-x : goal.invariant-loop-x
invariant-loop-x l = l.least ≡ pos (least_window l.level.number (repeated l.self.given l.self.cycle) l.x l.s)

-- what is left of a whole cycle without the greatest window of the rest is the least of the starts behind these
abbrev pub invariant-loop-x-2 : goal.invariant-loop-x-2
invariant-loop-x-2 l =
    (l.most ≡ pos (up l.most))
    × (up l.most ≤ window l.level.number (repeated l.self.given l.self.cycle) 0 l.self.cycle)
    × (min (least_window l.level.number (repeated l.self.given l.self.cycle) l.rest l.s) (window l.level.number (repeated l.self.given l.self.cycle) 0 l.self.cycle - up l.most) ≡ least_window l.level.number (repeated l.self.given l.self.cycle) (l.rest + l.x) l.s)
