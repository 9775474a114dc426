-- The variables that choices hold, from the highest digit.
use Rattle.std.specs.Prelude.{List, reverse}
use Rattle.candidates.specs.declared.choice.Choice.{Choice}
use Rattle.candidates.specs.declared.choices.Choices.{Choices}

abbrev pub choices_in : Choices → List Choice
choices_in c = reverse c.held.items
