mod FromKeepsUp
