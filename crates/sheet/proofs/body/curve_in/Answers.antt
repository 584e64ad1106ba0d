use Rattle.sheet.proofs.body.curve_in.Goals as goal

pub returns-in-Square : goal.returns-in-Square
returns-in-Square c = rw c.in-Square.is c.square.ensures

pub returns-in-Band : goal.returns-in-Band
returns-in-Band c = rw c.in-Band.is c.band.ensures

pub returns-in-Knees : goal.returns-in-Knees
returns-in-Knees c = rw c.in-Knees.is c.knees.ensures
