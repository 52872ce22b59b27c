-- The unknowns of an expression, by name: x0 is the first of the list.
-- Assumes nothing.
use Rattle.ring.specs.Expression.{E, var}

abbrev pub x0 : E
x0 = var 0

abbrev pub x1 : E
x1 = var 1

abbrev pub x2 : E
x2 = var 2

abbrev pub x3 : E
x3 = var 3

abbrev pub x4 : E
x4 = var 4

abbrev pub x5 : E
x5 = var 5

abbrev pub x6 : E
x6 = var 6

abbrev pub x7 : E
x7 = var 7

abbrev pub x8 : E
x8 = var 8

abbrev pub x9 : E
x9 = var 9

abbrev pub x10 : E
x10 = var 10

abbrev pub x11 : E
x11 = var 11

abbrev pub x12 : E
x12 = var 12

abbrev pub x13 : E
x13 = var 13

abbrev pub x14 : E
x14 = var 14

abbrev pub x15 : E
x15 = var 15

abbrev pub x16 : E
x16 = var 16

abbrev pub x17 : E
x17 = var 17

abbrev pub x18 : E
x18 = var 18

abbrev pub x19 : E
x19 = var 19
