-- `playing::legs_in_miles` meets its contract, leg by leg. Assumes nothing.
use Rattle.playing.proofs.legs_in_miles.Goals as goal

pub returns : goal.returns
returns c i =
    record {
      missed = c.of_sixty_fourths.ensures i;
      base = c.of_sixty_fourths-2.ensures i;
      intermediate = c.of_sixty_fourths-3.ensures i;
      final_approach = c.of_sixty_fourths-4.ensures i;
    }
